use Rattle.server_desks.proofs.course.course_of.Goals as goal

pub returns-in-Some-clause-log : goal.returns-in-Some-clause-log
returns-in-Some-clause-log c =
    rw c.in-Some.is (λ setup. record {
      entries = c.into_log.ensures.entries;
      width = c.into_log.ensures.width;
      limit = c.into_log.ensures.limit;
      contexts = c.into_log.ensures.contexts;
      marks = c.into_log.ensures.marks;
      keeping = c.into_log.ensures.keeping;
    })
