-- A desk's questions are those of its records.
use Rattle.std.proofs.Common.{◌≡◌, ◌∙◌, Bool, List, [], ◌∷◌, ◌++◌, append-nil, append_assoc, refl, sym, ap, subst}
use Rattle.sec_base.specs.declared.port.Port as ports
use Rattle.sec_base.specs.declared.link.Link as links
use Rattle.sec_base.specs.declared.clock.Clock as clocks
use Rattle.sec_base.specs.declared.draw.Draw as draws
use Rattle.rpc_msgs.specs.Records.{Fragments, octets_in}
use Rattle.accept_book.specs.RecordShown.{Asked}
use Rattle.accept_book.specs.declared.book_answer.Admitted.{Admitted}
use Rattle.rpc_program.specs.Programs.{Serving}
use Rattle.rpc_program.specs.declared.program.Speller as spellers
use Rattle.book_seats.specs.Notes.{Noted}
use Rattle.book_seats.specs.Telling.{AllTold}
use Rattle.gss_server.specs.Connections.{asked_for, asked_in}
use Rattle.gss_server.specs.declared.answer.Kept.{Kept}
use Rattle.gss_server.specs.declared.connection.Served.{Served}
use Rattle.gss_server.specs.declared.keeper.Keeper as keepers
use Rattle.server_desks.specs.Desks.{ServedOf, LinksServed}
use Rattle.server_seating.specs.SideBySide.{DeskAsked, unasked, Hears}
use Rattle.server_seating.proofs.Heard.{AllHear, heard-all, none-heard, parts}
use Rattle.world_laws.specs.State.{InHand}
use Rattle.server_laws.specs.ServerRun.{hands_of, hands_in}
use Rattle.server_laws.specs.Questions.{AreHeard, AreAsked, QuestionsLaw}
use Rattle.server_laws.proofs.ToldOf.{told-join}

are-heard : (firsts ones : List (Asked Admitted)) → AllHear firsts ones → AreHeard firsts ones
are-heard [] [] h = tt
are-heard [] (one ∷ ones) h = absurd h
are-heard (first ∷ firsts) [] h = absurd h
are-heard (first ∷ firsts) (one ∷ ones) h = (h.0, are-heard firsts ones h.1)

-- the records of one link
link-asked : (serves : Serving) (records : List Fragments) (kept : List Kept) (firsts : List (Asked Admitted)) → AllHear firsts (asked_in serves records kept) → AreAsked serves (hands_of records kept) firsts
link-asked serves [] kept firsts h = none-heard firsts h
link-asked serves (cut ∷ records) [] firsts h = none-heard firsts h
link-asked serves (cut ∷ records) (one ∷ kept) firsts h =
    let p = parts firsts (asked_for serves (octets_in cut) one) (asked_in serves records kept) h in
    (p.early, p.late, p.is, are-heard p.early (asked_for serves (octets_in cut) one) p.first, link-asked serves records kept p.late p.second)

-- records behind others
asked-join : (serves : Serving) (hands more : List InHand) (xs ys : List (Asked Admitted)) → AreAsked serves hands xs → AreAsked serves more ys → AreAsked serves (hands ++ more) (xs ++ ys)
asked-join serves [] more xs ys a b = subst (λ (l : List (Asked Admitted)). AreAsked serves more (l ++ ys)) (sym a) b
asked-join serves (hand ∷ hands) more xs ys a b =
    (a.0, a.1 ++ ys, ap (λ (l : List (Asked Admitted)). l ++ ys) a.2 ∙ append_assoc a.0 a.1 ys, a.3, asked-join serves hands more a.1 ys a.4 b)

-- the questions behind those that a desk asked before
record Adds {T W : Type 0} (spelling : spellers.Ghosts W T) (serves : Serving) (before after : DeskAsked T W) (hands : List InHand) : Type 0 where
  notes : List (Noted T)
  asked : List (Asked Admitted)
  noted_is : after.noted ≡ before.noted ++ notes
  told : AllTold spelling before.speller notes asked after.speller
  are : AreAsked serves hands asked

links-add : {T W L : Type 0} (spelling : spellers.Ghosts W T) (journaled : Bool) (serves : Serving) (link : links.Ghosts L) (before : DeskAsked T W) (olds : List L) (served : List (ServedOf L)) (after : DeskAsked T W) → (each : LinksServed (Hears spelling journaled) serves link before olds served after)
    → Adds spelling serves before after (hands_in (Hears spelling journaled) serves link before olds served after each)
links-add {T} {W} spelling journaled serves link before [] [] after s = record { notes = []; asked = []; noted_is = ap (λ (d : DeskAsked T W). d.noted) s ∙ sym (append-nil before.noted); told = ap (λ (d : DeskAsked T W). d.speller) s; are = refl }
links-add spelling journaled serves link before [] (one ∷ more) after s = absurd s
links-add spelling journaled serves link before (old ∷ olds) [] after s = absurd s
links-add {T} {W} spelling journaled serves link before (old ∷ olds) (one ∷ more) after s =
    let n = heard-all spelling journaled before s.0 (asked_in serves s.1.served.records one.answers) s.1.served.asked in
    let rest = links-add spelling journaled serves link s.0 olds more after s.2 in
    record {
      notes = n.notes ++ rest.notes;
      asked = n.firsts ++ rest.asked;
      noted_is = rest.noted_is ∙ (ap (λ (l : List (Noted T)). l ++ rest.notes) n.noted_is ∙ append_assoc before.noted n.notes rest.notes);
      told = told-join spelling n.notes rest.notes n.firsts rest.asked before.speller s.0.speller after.speller n.told rest.told;
      are = asked-join serves (hands_of s.1.served.records one.answers) (hands_in (Hears spelling journaled) serves link s.0 olds more after s.2) n.firsts rest.asked
          (link-asked serves s.1.served.records one.answers n.firsts n.hear) rest.are;
    }

pub questions : {P C D K M T W L Q R : Type 0} (spelling : spellers.Ghosts W T) (port : ports.Ghosts P L) (link : links.Ghosts L) (clock : clocks.Ghosts C) (draw : draws.Ghosts D) (keeper : keepers.Ghosts K Kept Q) (kept : keepers.Ghosts M (Served L) R)
    → QuestionsLaw spelling port link clock draw keeper kept
questions {T = T} {W = W} spelling port link clock draw keeper kept journaled faults faults' serves most i old end new noted hands had =
    let went = had.told.served.went in
    let after : DeskAsked T W = record { desk = i; noted = noted; speller = new.speller; failed = had.told.failed } in
    let a = links-add spelling journaled serves link (unasked i old.speller) went.links went.served after went.each in
    record {
      asked = a.asked;
      told = subst (λ (l : List (Noted T)). AllTold spelling old.speller l a.asked new.speller) (sym a.noted_is) a.told;
      are = subst (λ (l : List InHand). AreAsked serves l a.asked) (sym had.are) a.are;
    }
