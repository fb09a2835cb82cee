use Rattle.std.proofs.Common.{◌≡◌, get_or, arith}
use Rattle.std.proofs.lemmas.List.{at_drop_more, at_drop_all}
use Rattle.gss_base.proofs.Naming.{joined_from, part_written, realm_written}
use Rattle.gss_base.proofs.principal.written.Goals as goal

pub loop-part-preserved : goal.loop-part-preserved
loop-part-preserved c =
    let here = at_drop_more (joined_from c.loop-part.first) c.args.parts.now c.loop-part.part-index c.part-item.result (omega arith) in
    let same : get_or c.args.parts.now c.loop-part.part-index c.part-item.result ≡ c.as_str.result.now = cc in
    record {
      form = part_written _ _ _ _ _ _ _ _ _ c.loop-part.invariant.form here same c.in_ok-push_between.ensures.between c.in_ok-push_quoted.ensures.quoted;
      utf8 = c.in_ok-push_quoted.ensures.utf8 (c.in_ok-push_between.ensures.utf8 c.loop-part.invariant.utf8);
    }

pub returns : goal.returns
returns c =
    let none = at_drop_all (joined_from c.loop-part.first) c.args.parts.now c.loop-part.part-index (omega arith) in
    record {
      form = realm_written _ _ _ c.args.realm.now _ c.args.parts.now _ c.loop-part.invariant.form none c.in_ok-push_at.ensures.at c.in_ok-push_quoted-2.ensures.quoted;
      utf8 = c.in_ok-push_quoted-2.ensures.utf8 (c.in_ok-push_at.ensures.utf8 c.loop-part.invariant.utf8);
    }
