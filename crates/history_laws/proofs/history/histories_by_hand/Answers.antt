use Rattle.std.proofs.Common.{◌≡◌, ◌∙◌, ℕ, ◌<◌, ◌≤◌, ◌==◌, Bool, true, false, refl, ap, sym, subst, inl, inr, arith, List, [], ◌∷◌, Option, Some, None, Result, Ok, Err}
use Rattle.std.specs.Prelude.{if◌then◌else◌}
use Rattle.gss_base.specs.declared.mark.Mark.{Mark}
use Rattle.gss_base.specs.declared.mech.MechKind.TheVariants.{Scram}
use Rattle.spnego_core.specs.declared.accept_end.AcceptEnd.{AcceptEnd}
use Rattle.spnego_core.specs.declared.outcome.Outcome.{Outcome}
use Rattle.accept_core.specs.declared.answer.LookRefusal.{LookRefusal}
use Rattle.accept_core.specs.declared.answer.LookRefusal.TheVariants.{NoContext, NotReady}
use Rattle.accept_core.specs.declared.answer.Next.{Next}
use Rattle.accept_core.specs.declared.answer.Next.TheVariants as nexts
use Rattle.accept_core.specs.declared.entry.Entry.{Entry}
use Rattle.accept_core.specs.declared.entry.Entry.TheVariants.{Opened, Auth, Went, Settled, Call, Ended}
use Rattle.accept_core.specs.declared.entry.Receipt.{Receipt}
use Rattle.accept_core.specs.Entering.{gained, entered}
use Rattle.accept_core.specs.History.{Standing, Unknown, Open, Whole, standing}
use Rattle.accept_core.specs.Replays.{end_of_opened}
use Rattle.accept_core.specs.Stepping.{settles, gone_of, is_crowded}
use Rattle.spnego_core.specs.declared.accept_end.AcceptStep.{AcceptStep}
use Rattle.spnego_core.specs.declared.accept_end.AcceptStep.TheVariants as steps
use Rattle.spnego_core.specs.declared.accept_end.Answered.{Answered}
use Rattle.spnego_core.specs.declared.accept_end.Answered.TheVariants as afters
use Rattle.accept_book.specs.Booking.{mark_of, next_of, settled_of, answer_with}
use Rattle.accept_book.specs.declared.book_answer.NegAnswer.TheVariants as answers
use Rattle.accept_book.specs.declared.book_answer.Lease.{Lease}
use Rattle.history_laws.specs.Before.{greatest_of, ends_by, Lasts, NextBy, goes_before}
use Rattle.history_laws.specs.Examples.{with_log, begun, complete, crowded}
use Rattle.history_laws.specs.Receipts.{logged}
use Rattle.history_laws.proofs.history.histories_by_hand.Goals as goal

no-lease : (lease : Lease) (refusal : LookRefusal) → ◌≡◌ {A = Result Lease LookRefusal} (Err refusal) (Ok lease) → ⊥
no-lease lease refusal e = cc

other-one : ◌≡◌ {A = Result Lease LookRefusal} (Err NotReady) (Err NoContext) → ⊥
other-one e = cc

other-way : ◌≡◌ {A = Result Lease LookRefusal} (Err NoContext) (Err NotReady) → ⊥
other-way e = cc

some-id : ◌≡◌ {A = Option ℕ} (Some 1) None → ⊥
some-id e = cc

-- the context isn't past its end, nor is the second one
lasts-if : (b : Bool) (x y : Standing) (now : ℕ) → Lasts (ends_by x) now → Lasts (ends_by y) now → Lasts (ends_by (if b then x else y)) now
lasts-if true x y now p q = p
lasts-if false x y now p q = q

one-lasts : (id : ℕ) → Lasts (ends_by (standing id complete)) 1500
one-lasts id =
    let opened : 1500 ≤ end_of_opened 1000 = omega arith in
    let settled : 1500 ≤ 1500 = omega arith in
    lasts-if (1 == id) (Whole Scram [] 1500) (standing id begun) 1500 settled
    (lasts-if (1 == id) (Open 1000) Unknown 1500 opened tt)

never-many : 1 < 1 → ⊥
never-many e = omega (arith, e)

one-full : NextBy 1 complete 1500 None
one-full = (one-lasts, λ many. absurd (never-many many))

-- the id that the first entry ends, where it ends one
abbrev ended-by : Entry → Option ℕ
ended-by (Opened i at) = None
ended-by (Auth i mark at) = None
ended-by (Went i at) = None
ended-by (Settled i mech names ends at) = None
ended-by (Call i seq procedure args) = None
ended-by (Ended i cause) = Some i

abbrev ended-first : List Receipt → Option ℕ
ended-first [] = None
ended-first (receipt ∷ more) = ended-by receipt.entry

-- that of a first token is the one that goes
goes-first : (gone : Option ℕ) (mark : Option Mark) (next : Next AcceptEnd Outcome) (now : ℕ) → ended-first (gained 2 (entered None gone mark next now complete)) ≡ gone
goes-first None None (nexts.Going state) now = refl
goes-first None None (nexts.Settled mech names outcome ends) now = refl
goes-first None (Some mark) (nexts.Going state) now = refl
goes-first None (Some mark) (nexts.Settled mech names outcome ends) now = refl
goes-first (Some id) None (nexts.Going state) now = refl
goes-first (Some id) None (nexts.Settled mech names outcome ends) now = refl
goes-first (Some id) (Some mark) (nexts.Going state) now = refl
goes-first (Some id) (Some mark) (nexts.Settled mech names outcome ends) now = refl

goes-third : (gone : Option ℕ) (mark : Option Mark) (next : Next AcceptEnd Outcome) (now : ℕ) → ended-first (gained 3 (entered None gone mark next now crowded)) ≡ gone
goes-third None None (nexts.Going state) now = refl
goes-third None None (nexts.Settled mech names outcome ends) now = refl
goes-third None (Some mark) (nexts.Going state) now = refl
goes-third None (Some mark) (nexts.Settled mech names outcome ends) now = refl
goes-third (Some id) None (nexts.Going state) now = refl
goes-third (Some id) None (nexts.Settled mech names outcome ends) now = refl
goes-third (Some id) (Some mark) (nexts.Going state) now = refl
goes-third (Some id) (Some mark) (nexts.Settled mech names outcome ends) now = refl

-- a step settles exactly where its answer says so
going-settled : (own id : ℕ) (reply token : List ℕ) (lease : Lease) → answers.Going id reply ≡ answers.Settled lease token → ⊥
going-settled own id reply token lease e = cc

goes-on : (own id : ℕ) (reply : List ℕ) (step : AcceptStep) → answers.Going id reply ≡ answer_with own (settled_of step) → settles (next_of (settled_of step)) ≡ false
goes-on own id reply (steps.More end token) e = refl
goes-on own id reply (steps.Done outcome lasts token) e = absurd (going-settled own id reply token _ e)
goes-on own id reply (steps.WantsAuth pause) e = go pause.after e
  where
    go : (after : Answered) → answers.Going id reply ≡ answer_with own (settled_of (steps.WantsAuth (record pause { after = after }))) → settles (next_of (settled_of (steps.WantsAuth (record pause { after = after })))) ≡ false
    go (afters.More end token) e = refl
    go (afters.Done outcome lasts token) e = absurd (going-settled own id reply token _ e)

is-settled : (own : ℕ) (lease : Lease) (reply : List ℕ) (step : AcceptStep) → answers.Settled lease reply ≡ answer_with own (settled_of step) → settles (next_of (settled_of step)) ≡ true
is-settled own lease reply (steps.More end token) e = absurd (going-settled own own token reply lease (sym e))
is-settled own lease reply (steps.Done outcome lasts token) e = refl
is-settled own lease reply (steps.WantsAuth pause) e = go pause.after e
  where
    go : (after : Answered) → answers.Settled lease reply ≡ answer_with own (settled_of (steps.WantsAuth (record pause { after = after }))) → settles (next_of (settled_of (steps.WantsAuth (record pause { after = after })))) ≡ true
    go (afters.More end token) e = absurd (going-settled own own token reply lease (sym e))
    go (afters.Done outcome lasts token) e = refl

-- the complete one isn't next while another negotiates and it lasts
not-next : NextBy 2 crowded 1500 (Some 1) → ⊥
not-next (inl over) = let e : 1500 < 1500 = over.0 in omega (arith, e)
not-next (inr waits) = (waits.2).0

pub returns : goal.returns
unfolding logged greatest_of
returns c = record {
  told = λ lease. refl;
  greatest = refl;
  unopened = λ setup. record { by_log = refl; by_steps = λ lease e. absurd (no-lease lease _ e) };
  not_unopened = λ setup s. other-one s.by_log;
  negotiates = λ setup. record { by_log = refl; by_steps = λ lease e. absurd (no-lease lease _ e) };
  not_gone = λ setup s. other-way s.by_log;
  past = λ setup. record { by_log = (omega arith, refl); by_steps = λ lease e. absurd (no-lease lease _ e) };
  not_past = λ setup s. omega (arith, s.by_log.0);
  ended = λ setup. record { by_log = refl; by_steps = λ lease e. absurd (no-lease lease _ e) };
  known = λ setup token draws s. s.0;
  free = λ setup token draws s. omega (arith, s.1);
  placed = λ setup token draws s. some-id s.0;
  one_lives = refl;
  two_live = refl;
  one_ended = refl;
  full = λ setup token draws. (refl, record { negotiates = tt; room = omega arith }, omega arith, one-full, refl);
  not_full = λ setup token draws reply receipts s. never-many (s.step.placed refl one-full);
  roomy = λ setup token draws s. let e : 2 ≤ 1 = s.2 in omega (arith, e);
  one_past = λ setup token draws s. let e : 1501 ≤ 1500 = (s.3).0 1 in omega (arith, e);
  one_waits = λ setup token draws s. (s.3).1 (omega arith) 2 tt;
  stays = λ setup token draws reply s.
      let quiet = goes-on 3 3 reply s.accepted.step s.says in
      let gone : Some 1 ≡ s.past =
      ap ended-first s.gains
      ∙ goes-third (goes_before (with_log setup crowded) None (next_of (settled_of s.accepted.step)) s.past) (mark_of s.accepted.step) (next_of (settled_of s.accepted.step)) 1500
      ∙ ap (λ (b : Bool). gone_of (is_crowded b crowded 2) true (Some 1) s.past) quiet in
      not-next (subst (λ (o : Option ℕ). NextBy 2 crowded 1500 o) (sym gone) s.is_past);
  shared = λ setup token draws reply lease more s.
      let loud = is-settled 2 lease reply s.accepted.step s.says in
      let gone : None ≡ Some 1 =
      ap ended-first s.gains
      ∙ goes-first (goes_before (with_log setup complete) None (next_of (settled_of s.accepted.step)) s.past) (mark_of s.accepted.step) (next_of (settled_of s.accepted.step)) 1500
      ∙ ap (λ (b : Bool). gone_of (is_crowded b complete 2) false (Some 1) s.past) loud in
      some-id (sym gone);
  kept = λ setup token draws reply s.
      let quiet = goes-on 2 2 reply s.accepted.step s.says in
      let gone : Some 1 ≡ None =
      ap ended-first s.gains
      ∙ goes-first (goes_before (with_log setup complete) None (next_of (settled_of s.accepted.step)) s.past) (mark_of s.accepted.step) (next_of (settled_of s.accepted.step)) 1501
      ∙ ap (λ (b : Bool). gone_of (is_crowded b complete 2) false (Some 1) s.past) quiet in
      some-id gone;
}
