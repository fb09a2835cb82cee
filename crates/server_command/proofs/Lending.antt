-- The desks of a run take numbers only of leases that were given before.
use Rattle.std.proofs.Common.{◌≡◌, ◌≢◌, ◌⊎◌, ◌∙◌, ℕ, zero, suc, ◌<◌, ◌≤◌, ◌==◌, eq-eqb, ne_eqb, if◌then◌else◌, Bool, true, false, is_some, List, [], ◌∷◌, ◌++◌, length, map, slice_get, Option, Some, None, append_assoc, append-nil, refl, sym, ap, subst, inl, inr, arith}
use Rattle.std.proofs.lemmas.Bool.{cases_eq, cases_lt}
use Rattle.std.proofs.lemmas.List.{map-append}
use Rattle.std.proofs.lemmas.Option.{none-some}
use Rattle.sec_base.specs.declared.port.Port as ports
use Rattle.sec_base.specs.declared.link.Link as links
use Rattle.sec_base.specs.declared.clock.Clock as clocks
use Rattle.sec_base.specs.declared.draw.Draw as draws
use Rattle.rpc_msgs.specs.Records.{Fragments, octets_in}
use Rattle.accept_core.specs.Logs.{LogOf}
use Rattle.accept_book.specs.RecordShown.{Asked}
use Rattle.accept_book.specs.declared.book_answer.Admitted.{Admitted}
use Rattle.accept_core.specs.declared.entry.Receipt.{Receipt}
use Rattle.rpc_program.specs.Programs.{Serving}
use Rattle.rpc_program.specs.declared.program.Program as programs
use Rattle.rpc_program.specs.declared.program.Speller as spellers
use Rattle.accept_book.specs.declared.book_answer.Lease.{Lease}
use Rattle.gss_server.specs.Connections.{asked_for, asked_in}
use Rattle.gss_server.specs.Hearing.{kept_answers, serving}
use Rattle.gss_server.specs.declared.answer.Kept.{Kept}
use Rattle.gss_server.specs.declared.connection.Served.{Served}
use Rattle.gss_server.specs.declared.keeper.Keeper as keepers
use Rattle.book_seats.specs.Notes.{Note, Noted, noted_by, noted_in, receipted, asked_by, questions_of}
use Rattle.book_seats.proofs.Books.{all-booked}
use Rattle.book_seats.proofs.Moves.{of-append, of-own, of-else}
use Rattle.history_laws.specs.Before.{Gives, IsGiven}
use Rattle.history_laws.specs.Lent.{AllLent, Takes}
use Rattle.history_laws.proofs.Lent.{LentFrom, lent-join, lends-record, at-place, lent-booked}
use Rattle.server_desks.specs.Desks.{ServedOf, ServedLink, LinksServed, run_limit}
use Rattle.server_desks.specs.declared.desk.Desk.{Desk}
use Rattle.server_desks.specs.declared.desk.DeskEnd.{DeskEnd}
use Rattle.server_options.specs.declared.ending.RunEnd.{RunEnd}
use Rattle.server_options.specs.declared.keys.Keys.{Keys}
use Rattle.server_options.specs.declared.options.Options.{Options}
use Rattle.server_command.specs.Through.{OneHistory}
use Rattle.server_seating.specs.SideBySide.{DeskAsked, DeskTold, unasked, Hears}
use Rattle.server_seating.proofs.Heard.{Heard, AllHear, heard-all, heard-more}

-- ---- what one desk asked

lent-in : (serves : Serving) (records : List Fragments) (kept : List Kept) → LentFrom [] (asked_in serves records kept)
lent-in serves [] kept = tt
lent-in serves (cut ∷ records) [] = tt
lent-in serves (cut ∷ records) (one ∷ kept) = lent-join [] (asked_for serves (octets_in cut) one) (asked_in serves records kept) (lends-record (octets_in cut) (kept_answers one) serves) (lent-in serves records kept)

-- a question that was told otherwise than it was answered takes no number, and gives no lease
takes-heard : (lease : Lease) (first one : Asked Admitted) → Heard first one → Takes lease first → Takes lease one
takes-heard lease first one (inl same) takes = subst (λ (x : Asked Admitted). Takes lease x) (sym same) takes
takes-heard lease first one (inr held) takes = absurd (subst (λ (x : Asked Admitted). Takes lease x) held.1.asked takes)

gives-heard : (lease : Lease) (first one : Asked Admitted) → Heard first one → Gives lease one → Gives lease first
gives-heard lease first one (inl same) gives = subst (λ (x : Asked Admitted). Gives lease x) same gives
gives-heard lease first one (inr held) gives = absurd (subst (λ (x : Asked Admitted). Gives lease x) held.1.told gives)

given-heard : (lease : Lease) (firsts ones : List (Asked Admitted)) → AllHear firsts ones → IsGiven lease ones → IsGiven lease firsts
given-heard lease [] [] h given = given
given-heard lease [] (one ∷ ones) h given = absurd h
given-heard lease (first ∷ firsts) [] h given = absurd h
given-heard lease (first ∷ firsts) (one ∷ ones) h (inl gives) = inl (gives-heard lease first one h.0 gives)
given-heard lease (first ∷ firsts) (one ∷ ones) h (inr later) = inr (given-heard lease firsts ones h.1 later)

lent-heard : (olds before firsts ones : List (Asked Admitted)) → AllHear olds before → AllHear firsts ones → LentFrom before ones → LentFrom olds firsts
lent-heard olds before [] ones b h l = tt
lent-heard olds before (first ∷ firsts) [] b h l = absurd h
lent-heard olds before (first ∷ firsts) (one ∷ ones) b h l = (
  λ lease takes. given-heard lease olds before b (l.0 lease (takes-heard lease first one h.0 takes)),
  lent-heard (olds ++ first ∷ []) (before ++ one ∷ []) firsts ones (heard-more olds before first one b h.0) h.1 l.1,
)

-- the questions behind those that a desk asked before, as they stand in the history
record Adds {T W : Type 0} (before after : DeskAsked T W) : Type 0 where
  notes : List (Noted T)
  noted_is : after.noted ≡ before.noted ++ notes
  lent : LentFrom [] (map receipted notes)

adds-join : {T W : Type 0} (before middle after : DeskAsked T W) → Adds before middle → Adds middle after → Adds before after
adds-join {T} before middle after f s = record {
  notes = f.notes ++ s.notes;
  noted_is = s.noted_is ∙ (ap (λ (xs : List (Noted T)). xs ++ s.notes) f.noted_is ∙ append_assoc before.noted f.notes s.notes);
  lent = subst (λ (xs : List (Asked Receipt)). LentFrom [] xs) (sym (map-append receipted f.notes s.notes)) (lent-join [] (map receipted f.notes) (map receipted s.notes) f.lent s.lent);
}

link-adds : {T W L : Type 0} (spelling : spellers.Ghosts W T) (journaled : Bool) (serves : Serving) (link : links.Ghosts L) (before : DeskAsked T W) (old : L) (one : ServedOf L) (after : DeskAsked T W) → ServedLink (Hears spelling journaled) serves link before old one after → Adds before after
link-adds spelling journaled serves link before old one after s =
    let asked = asked_in serves s.served.records one.answers in
    let n = heard-all spelling journaled before after asked s.served.asked in record {
      notes = n.notes;
      noted_is = n.noted_is;
      lent = subst (λ (xs : List (Asked Receipt)). LentFrom [] xs) (all-booked spelling n.notes n.firsts before.speller after.speller n.told)
          (lent-booked [] n.firsts (lent-heard [] [] n.firsts asked tt n.hear (lent-in serves s.served.records one.answers)));
    }

links-add : {T W L : Type 0} (spelling : spellers.Ghosts W T) (journaled : Bool) (serves : Serving) (link : links.Ghosts L) (before : DeskAsked T W) (olds : List L) (served : List (ServedOf L)) (after : DeskAsked T W) → LinksServed (Hears spelling journaled) serves link before olds served after → Adds before after
links-add {T} {W} spelling journaled serves link before [] [] after s = record { notes = []; noted_is = ap (λ (d : DeskAsked T W). d.noted) s ∙ sym (append-nil before.noted); lent = tt }
links-add spelling journaled serves link before [] (one ∷ more) after s = absurd s
links-add spelling journaled serves link before (old ∷ olds) [] after s = absurd s
links-add spelling journaled serves link before (old ∷ olds) (one ∷ more) after s = adds-join before s.0 after (link-adds spelling journaled serves link before old one s.0 s.1) (links-add spelling journaled serves link s.0 olds more after s.2)

desk-lent : {P C D K M T W L Q R : Type 0} (spelling : spellers.Ghosts W T) (journaled : Bool) (faults faults' : ℕ) (serves : Serving) (most : ℕ) (port : ports.Ghosts P L) (link : links.Ghosts L) (clock : clocks.Ghosts C) (draw : draws.Ghosts D) (keeper : keepers.Ghosts K Kept Q)
    (kept : keepers.Ghosts M (Served L) R) (i : ℕ) (old : Desk P C D K M W) (ending : DeskEnd) (new : Desk P C D K M W) (noted : List (Noted T))
    → DeskTold spelling journaled faults faults' serves most port link clock draw keeper kept i old ending new noted → LentFrom [] (map receipted noted)
desk-lent {T = T} spelling journaled faults faults' serves most port link clock draw keeper kept i old ending new noted t =
    let a = links-add spelling journaled serves link (unasked i old.speller) t.served.went.links t.served.went.served (record { desk = i; noted = noted; speller = new.speller; failed = t.failed }) t.served.went.each in
    subst (λ (xs : List (Noted T)). LentFrom [] (map receipted xs)) (sym a.noted_is) a.lent

-- ---- each desk

pub get-past : {A : Type 0} (xs : List A) (i : ℕ) → slice_get xs i ≡ None → length xs ≤ i
get-past [] i e = omega arith
get-past (y ∷ ys) zero e = absurd (none-some y (sym e))
get-past (y ∷ ys) (suc i) e = omega (arith, get-past ys i e)

each-lent : {D : Type 0} (olds : List D) (ends : List DeskEnd) (news : List D) (i : ℕ) (asked : List (Asked Receipt)) (old : Option D) (ending : Option DeskEnd) (new : Option D) → length news ≡ length olds → length ends ≡ length olds
    → slice_get olds i ≡ old → slice_get ends i ≡ ending → slice_get news i ≡ new → i < length olds
    → ((old new : D) (ending : DeskEnd) → slice_get olds i ≡ Some old → slice_get ends i ≡ Some ending → slice_get news i ≡ Some new → LentFrom [] asked) → LentFrom [] asked
each-lent olds ends news i asked None ending new count ends_count a b c below lent = let le = get-past olds i a in absurd (omega (arith, le, below))
each-lent olds ends news i asked (Some old) None new count ends_count a b c below lent = let le = get-past ends i b in absurd (omega (arith, le, below, ends_count))
each-lent olds ends news i asked (Some old) (Some ending) None count ends_count a b c below lent = let le = get-past news i c in absurd (omega (arith, le, below, count))
each-lent olds ends news i asked (Some old) (Some ending) (Some new) count ends_count a b c below lent = lent old new ending a b c

-- ---- the history of all desks

module _ {T : Type 0} where
  given-by : (desk : ℕ) (note : Note T) (notes : List (Note T)) (lease : Lease) → (IsGiven lease (asked_by desk notes) → IsGiven lease (questions_of notes)) → (b : Bool)
      → IsGiven lease (map receipted (if b then note.1 ∷ noted_by desk notes else noted_by desk notes)) → Gives lease (receipted note.1) ⊎ IsGiven lease (questions_of notes)
  given-by desk note notes lease later true (inl gives) = inl gives
  given-by desk note notes lease later true (inr given) = inr (later given)
  given-by desk note notes lease later false given = inr (later given)

  given-of : (desk : ℕ) (notes : List (Note T)) (lease : Lease) → IsGiven lease (asked_by desk notes) → IsGiven lease (questions_of notes)
  given-of desk [] lease none = none
  given-of desk (note ∷ notes) lease given = given-by desk note notes lease (given-of desk notes lease) (note.0 == desk) given

  own-first : (desk : ℕ) (one : Noted T) (rest : List (Note T)) → noted_by desk ((desk, one) ∷ rest) ≡ one ∷ noted_by desk rest
  own-first desk one rest = rw (eq-eqb desk desk refl) refl

  other-first : (desk i : ℕ) (one : Noted T) (rest : List (Note T)) → desk ≢ i → noted_by i ((desk, one) ∷ rest) ≡ noted_by i rest
  other-first desk i one rest ne = rw (ne_eqb desk i ne) refl

  own-last : (desk : ℕ) (one : Noted T) (before : List (Note T)) → noted_by desk (before ++ (desk, one) ∷ []) ≡ noted_by desk before ++ one ∷ []
  own-last desk one before = of-append desk before ((desk, one) ∷ []) ∙ ap (λ (l : List (Noted T)). noted_by desk before ++ l) (of-own desk one)

  other-last : (desk i : ℕ) (one : Noted T) (before : List (Note T)) → desk ≢ i → noted_by i (before ++ (desk, one) ∷ []) ≡ noted_by i before
  other-last desk i one before ne =
      of-append i before ((desk, one) ∷ []) ∙ (ap (λ (l : List (Noted T)). noted_by i before ++ l) (of-else i desk one ne) ∙ append-nil (noted_by i before))

  -- what the book was asked, one question more
  asked-last : (desk : ℕ) (one : Noted T) (before : List (Note T)) → asked_by desk (before ++ (desk, one) ∷ []) ≡ asked_by desk before ++ receipted one ∷ []
  asked-last desk one before = ap (λ (l : List (Noted T)). map receipted l) (own-last desk one before) ∙ map-append receipted (noted_by desk before) (one ∷ [])

  questions-last : (desk : ℕ) (one : Noted T) (before : List (Note T)) → questions_of (before ++ (desk, one) ∷ []) ≡ questions_of before ++ receipted one ∷ []
  questions-last desk one before =
      ap (λ (l : List (Noted T)). map receipted l) (map-append (λ (note : Note T). note.1) before ((desk, one) ∷ [])) ∙ map-append receipted (noted_in before) (one ∷ [])

  first-lent : (desk : ℕ) (one : Noted T) (before rest : List (Note T)) → LentFrom (asked_by desk before) (asked_by desk ((desk, one) ∷ rest)) → LentFrom (asked_by desk before) (receipted one ∷ asked_by desk rest)
  first-lent desk one before rest l = subst (λ (xs : List (Noted T)). LentFrom (asked_by desk before) (map receipted xs)) (own-first desk one rest) l

  -- what the desks ask after these notes
  rest-lent : (desk : ℕ) (one : Noted T) (before rest : List (Note T)) → ((i : ℕ) → LentFrom (asked_by i before) (asked_by i ((desk, one) ∷ rest)))
      → (i : ℕ) → LentFrom (asked_by i (before ++ (desk, one) ∷ [])) (asked_by i rest)
  rest-lent desk one before rest each i = elim (cases_eq desk i) [
    | inl e ↦ subst (λ (k : ℕ). LentFrom (asked_by k (before ++ (desk, one) ∷ [])) (asked_by k rest)) e
        (subst (λ (l : List (Asked Receipt)). LentFrom l (asked_by desk rest)) (sym (asked-last desk one before)) (first-lent desk one before rest (each desk)).1)
    | inr ne ↦ subst (λ (l : List (Noted T)). LentFrom (map receipted l) (asked_by i rest)) (sym (other-last desk i one before ne))
        (subst (λ (l : List (Noted T)). LentFrom (asked_by i before) (map receipted l)) (other-first desk i one rest ne) (each i))
  ]

  all-lent : (before more : List (Note T)) → ((i : ℕ) → LentFrom (asked_by i before) (asked_by i more)) → LentFrom (questions_of before) (questions_of more)
  all-lent before [] each = tt
  all-lent before ((desk, one) ∷ rest) each = (
    λ lease takes. given-of desk before lease ((first-lent desk one before rest (each desk)).0 lease takes),
    subst (λ (xs : List (Asked Receipt)). LentFrom xs (questions_of rest)) (questions-last desk one before)
        (all-lent (before ++ (desk, one) ∷ []) rest (rest-lent desk one before rest each)),
  )

pub lent : {V P C D K M T W L Q R : Type 0} (served : programs.Ghosts V T) (spelling : spellers.Ghosts W T) (options : Options) (keys : Keys) (start faults faults' : ℕ) (port : ports.Ghosts P L) (link : links.Ghosts L) (clock : clocks.Ghosts C) (draw : draws.Ghosts D)
    (keeper : keepers.Ghosts K Kept Q) (kept : keepers.Ghosts M (Served L) R) (olds : List (Desk P C D K M W)) (before : V) (end : RunEnd) (news : List (Desk P C D K M W)) (after : V) (log : LogOf)
    → (one : OneHistory served spelling options keys start faults faults' port link clock draw keeper kept olds before end news after log) → AllLent (questions_of one.all)
lent {T = T} served spelling options keys start faults faults' port link clock draw keeper kept olds before end news after log one = at-place (questions_of one.all) (all-lent [] one.all (λ i. elim (cases_lt i (length olds)) [
  | inl below ↦ each-lent olds one.ends news i (asked_by i one.all) (slice_get olds i) (slice_get one.ends i) (slice_get news i) one.count one.ends_count refl refl refl below
      (λ old new ending a b c. desk-lent spelling (is_some options.files.journal) faults faults' (serving spelling.says options.window) (run_limit options.connections (length olds)) port link clock draw keeper kept i old ending new (noted_by i one.all) (one.each i old new ending a b c))
  | inr past ↦ subst (λ (xs : List (Noted T)). LentFrom [] (map receipted xs)) (sym (one.others i past)) tt
]))
