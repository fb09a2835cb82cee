-- How the book stands after a turn of an exchange: it awaits the next token, or the context is settled.
use Rattle.std.proofs.Common.{◌≡◌, ℕ, ◌+◌, ◌<◌, ◌≤◌, refl, sym, ap, ◌∙◌, subst, arith, List, [], ◌∷◌, ◌++◌, length, option_to_list, Option, Some, None}
use Rattle.std.specs.Prelude.{max}
use Rattle.std.proofs.lemmas.Bool.{eq-eqb}
use Rattle.std.proofs.lemmas.Bool.Decides.{nat_tests}
use Rattle.std.proofs.lemmas.Option.{none-some}
use Rattle.gss_base.specs.declared.mark.Mark.{Mark}
use Rattle.gss_base.specs.declared.mech.MechKind.{MechKind}
use Rattle.spnego_core.specs.declared.accept_end.AcceptEnd.{AcceptEnd}
use Rattle.spnego_core.specs.declared.accept_end.AcceptStep.{AcceptStep}
use Rattle.spnego_core.specs.declared.accept_end.AcceptStep.TheVariants as accept_steps
use Rattle.spnego_core.specs.declared.outcome.Outcome.{Outcome}
use Rattle.spnego_core.specs.Accepting.{Fixed}
use Rattle.accept_core.specs.declared.answer.Next.TheVariants as nexts
use Rattle.accept_core.specs.declared.entry.Entry.{Entry}
use Rattle.accept_core.specs.declared.entry.Entry.TheVariants.{Settled}
use Rattle.accept_book.specs.Booking.{Outcomes, raised, mark_of, next_of, names_of}
use Rattle.accept_core.specs.Entering.{id_of, started, noted, entered}
use Rattle.accept_core.specs.Aging.{in_use}
use Rattle.accept_core.specs.Stepping.{goes_by}
use Rattle.accept_core.specs.declared.answer.Next.{Next}
use Rattle.pair_laws.proofs.Entries.{uses-entered}
use Rattle.accept_core.specs.History.{Whole, standing, numbers, taken_of}
use Rattle.pair_laws.proofs.Settling.{Came, Negotiates, goes-after}
use Rattle.world_laws.specs.Deeds.{Deed}
use Rattle.world_laws.specs.Premises.{WasSettled}
use Rattle.world_laws.specs.State.{World}
use Rattle.world_laws.proofs.HeldHistory.{at-head}
use Rattle.world_runs.proofs.MetEvents.{Stays, Case, goes-alone, step_in, comes_of, came, came-so, Answers}

-- ---- what a step adds to the log

-- the entries but the last
abbrev base : Option ℕ → Option ℕ → Option Mark → ℕ → List Entry → List Entry
base id gone mark now h = noted mark (id_of id h) now (started id gone now h)

record Adds (id : Option ℕ) (mark : Option Mark) (h new : List Entry) : Type 0 where
  few : length new ≤ length h + 2
  uncalled : (n : ℕ) → numbers n new ≡ numbers n h
  untaken : mark ≡ None → taken_of new ≡ taken_of h

base-adds : (id gone : Option ℕ) (mark : Option Mark) (now : ℕ) (h : List Entry) → gone ≡ None → Adds id mark h (base id gone mark now h)
base-adds None gone None now h alone = rw alone (record { few = omega arith; uncalled = λ n. refl; untaken = λ e. refl })
base-adds None gone (Some mark) now h alone = rw alone (record { few = omega arith; uncalled = λ n. refl; untaken = λ e. absurd (none-some mark (sym e)) })
base-adds (Some id) gone None now h alone = rw alone (record { few = omega arith; uncalled = λ n. refl; untaken = λ e. refl })
base-adds (Some id) gone (Some mark) now h alone = rw alone (record { few = omega arith; uncalled = λ n. refl; untaken = λ e. absurd (none-some mark (sym e)) })

goes-adds : (id gone : Option ℕ) (mark : Option Mark) (end : AcceptEnd) (now : ℕ) (h : List Entry) → gone ≡ None → Adds id mark h (entered {N = AcceptEnd} {S = Outcome} id gone mark (nexts.Going end) now h)
goes-adds None gone mark end now h alone = base-adds None gone mark now h alone
goes-adds (Some id) gone None end now h alone = rw alone (record { few = omega arith; uncalled = λ n. refl; untaken = λ e. refl })
goes-adds (Some id) gone (Some mark) end now h alone = rw alone (record { few = omega arith; uncalled = λ n. refl; untaken = λ e. absurd (none-some mark (sym e)) })

-- ---- it goes on

max-again : (a b : ℕ) → max (max a b) b ≡ max a b
max-again a b = grind (arith, nat_tests)

nothing-fixed : (fixed : List Fixed) (found : Option Fixed) → fixed ++ option_to_list found ≡ [] → (fixed ≡ []) × (found ≡ None)
nothing-fixed [] None e = (refl, refl)
nothing-fixed [] (Some one) e = absurd cc
nothing-fixed (first ∷ fixed) found e = absurd cc

entries : (c : Case) (deed : Deed) (new : World) (a : Answers c deed new)
    → a.book.core.history ≡ entered c.id (goes_by c.id (next_of (step_in c)) a.past c.book.core.history c.book.core.table) (mark_of c.heard.accepted.step) (next_of (step_in c)) (max c.book.core.cache.greatest c.x.now) c.book.core.history
entries c deed new a = a.outcome.history ∙ ap (λ (o : Outcomes). o.history) (came c a.past)

goes-entries : (c : Case) (deed : Deed) (new : World) (a : Answers c deed new) (after : AcceptEnd) (reply : List ℕ) → step_in c ≡ accept_steps.More after reply → Adds c.id (mark_of c.heard.accepted.step) c.book.core.history a.book.core.history
goes-entries c deed new a after reply goes =
    subst (λ (h : List Entry). Adds c.id (mark_of c.heard.accepted.step) c.book.core.history h) (sym (entries c deed new a ∙ ap (λ (s : AcceptStep). entered c.id (goes_by c.id (next_of s) a.past c.book.core.history c.book.core.table) (mark_of c.heard.accepted.step) (next_of s) (max c.book.core.cache.greatest c.x.now) c.book.core.history) goes))
    (goes-adds c.id (goes_by c.id (nexts.Going after) a.past c.book.core.history c.book.core.table) (mark_of c.heard.accepted.step) after (max c.book.core.cache.greatest c.x.now) c.book.core.history (goes-alone c a.past (nexts.Going after)))

pub stays-on : (c : Case) (deed : Deed) (new : World) (a : Answers c deed new) (after : AcceptEnd) (reply : List ℕ) → step_in c ≡ accept_steps.More after reply → Stays c.x (Some 1) after c.left a.book a.lanes (c.fixed ++ option_to_list c.heard.accepted.fixes)
stays-on c deed new a after reply goes =
    let adds = goes-entries c deed new a after reply goes in
    let came_more : Came (raised c.book.core c.x.now) c.id a.past (accept_steps.More after reply) (comes_of c a.past) = subst (λ (s : AcceptStep). Came (raised c.book.core c.x.now) c.id a.past s (comes_of c a.past)) goes (came-so c a.past) in
    let n = goes-after c.book.setup c.book.core a.book.core c.id a.past c.end after reply c.x.now (comes_of c a.past) c.stays.comes came_more a.outcome.history a.outcome.contexts in
    record {
      idle = a.idle;
      setup = a.notes.setup ∙ c.stays.setup;
      comes = subst (λ (id : ℕ). Negotiates id a.book.core after) c.stays.own n;
      own = refl;
      few = λ none. absurd (none-some 1 (sym none));
      unused = ap (λ (h : List Entry). in_use h) (entries c deed new a)
          ∙ ap (λ (s : AcceptStep). in_use (entered c.id (goes_by c.id (next_of s) a.past c.book.core.history c.book.core.table) (mark_of c.heard.accepted.step) (next_of s) (max c.book.core.cache.greatest c.x.now) c.book.core.history)) goes
          ∙ ap (λ (o : Option ℕ). in_use (entered {S = Outcome} c.id o (mark_of c.heard.accepted.step) (nexts.Going after) (max c.book.core.cache.greatest c.x.now) c.book.core.history)) (goes-alone c a.past (nexts.Going after))
          ∙ uses-entered c.id (mark_of c.heard.accepted.step) (nexts.Going after) (max c.book.core.cache.greatest c.x.now) c.book.core.history c.stays.unused;
      room = omega (arith, adds.few, c.stays.room, a.notes.limit);
      uncalled = adds.uncalled 1 ∙ c.stays.uncalled;
      untaken = λ none. (let both = nothing-fixed c.fixed c.heard.accepted.fixes none in adds.untaken (c.heard.unmarked both.1) ∙ c.stays.untaken both.0);
      capacity = a.notes.capacity ∙ c.stays.capacity;
      greatest = ap (λ (g : ℕ). max g c.x.now) a.notes.greatest ∙ (max-again c.book.core.cache.greatest c.x.now ∙ c.stays.greatest);
    }

-- ---- it is settled

-- the log has the context complete, no call of it, and a place
pub record Closes (c : Case) (history : List Entry) (limit : ℕ) (outcome : Outcome) (lasts : ℕ) : Type 0 where
  pub whole : standing 1 history ≡ Whole outcome.mech (names_of outcome) lasts
  pub settled : WasSettled history 1
  pub uncalled : numbers 1 history ≡ []
  pub place : length history < limit

stands-whole : (id : ℕ) (mech : MechKind) (names : List ℕ) (ends at : ℕ) (h : List Entry) → standing id (Settled id mech names ends at ∷ h) ≡ Whole mech names ends
stands-whole id mech names ends at h = rw (eq-eqb id id refl) refl

closes-by : (c : Case) (rest : List Entry) (limit at : ℕ) (outcome : Outcome) (lasts : ℕ) → length rest ≤ length c.book.core.history + 2 → numbers 1 rest ≡ [] → limit ≡ c.book.core.limit
    → Closes c (Settled 1 outcome.mech (names_of outcome) lasts at ∷ rest) limit outcome lasts
closes-by c rest limit at outcome lasts few uncalled is = record {
  whole = stands-whole 1 outcome.mech (names_of outcome) lasts at rest;
  settled = record { place = length rest; mech = outcome.mech; names = names_of outcome; ends = lasts; at = at; entry = at-head (length rest) (Settled 1 outcome.mech (names_of outcome) lasts at) rest refl };
  uncalled = uncalled;
  place = omega (arith, few, c.stays.room, is);
}

pub closes : (c : Case) (deed : Deed) (new : World) (a : Answers c deed new) (outcome : Outcome) (lasts : ℕ) (reply : List ℕ) → step_in c ≡ accept_steps.Done outcome lasts reply → Closes c a.book.core.history a.book.core.limit outcome lasts
closes c deed new a outcome lasts reply done =
    let settled : Next AcceptEnd Outcome = nexts.Settled outcome.mech (names_of outcome) outcome lasts in
    let gone : Option ℕ = goes_by c.id settled a.past c.book.core.history c.book.core.table in
    let at : ℕ = max c.book.core.cache.greatest c.x.now in
    let adds = base-adds c.id gone (mark_of c.heard.accepted.step) at c.book.core.history (goes-alone c a.past settled) in
    let first : a.book.core.history ≡ Settled (id_of c.id c.book.core.history) outcome.mech (names_of outcome) lasts at ∷ base c.id gone (mark_of c.heard.accepted.step) at c.book.core.history =
    entries c deed new a ∙ ap (λ (s : AcceptStep). entered c.id (goes_by c.id (next_of s) a.past c.book.core.history c.book.core.table) (mark_of c.heard.accepted.step) (next_of s) at c.book.core.history) done in
    let is : a.book.core.history ≡ Settled 1 outcome.mech (names_of outcome) lasts at ∷ base c.id gone (mark_of c.heard.accepted.step) at c.book.core.history =
    first ∙ ap (λ (n : ℕ). Settled n outcome.mech (names_of outcome) lasts at ∷ base c.id gone (mark_of c.heard.accepted.step) at c.book.core.history) c.stays.own in
    subst (λ (h : List Entry). Closes c h a.book.core.limit outcome lasts) (sym is)
    (closes-by c (base c.id gone (mark_of c.heard.accepted.step) at c.book.core.history) a.book.core.limit at outcome lasts adds.few (adds.uncalled 1 ∙ c.stays.uncalled) a.notes.limit)
