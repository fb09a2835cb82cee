-- The receipts that desks keep are the log's.
use Rattle.std.proofs.Common.{◌≡◌, inl, inr, ◌∙◌, ℕ, zero, suc, ◌+◌, Bool, is_some, List, [], ◌∷◌, ◌++◌, append-nil, append_assoc, length, map, slice_get, Option, Some, None, Result, Ok, Err, refl, sym, ap, arith}
use Rattle.std.specs.List.{flat_map}
use Rattle.sec_base.specs.declared.port.Port as ports
use Rattle.sec_base.specs.declared.link.Link as links
use Rattle.sec_base.specs.declared.clock.Clock as clocks
use Rattle.sec_base.specs.declared.draw.Draw as draws
use Rattle.rpc_msgs.specs.Records.{Fragments, octets_in}
use Rattle.accept_core.specs.Entering.{given, gained}
use Rattle.accept_core.specs.declared.answer.AdmitRefusal.{AdmitRefusal}
use Rattle.accept_core.specs.declared.answer.LookRefusal.{LookRefusal}
use Rattle.accept_book.specs.declared.book_answer.Admitted.{Admitted}
use Rattle.rpc_program.specs.Programs.{Serving}
use Rattle.rpc_program.specs.declared.program.Program as programs
use Rattle.rpc_program.specs.declared.program.Speller as spellers
use Rattle.accept_core.specs.declared.entry.Entry.{Entry}
use Rattle.accept_core.specs.declared.entry.Receipt.{Receipt}
use Rattle.accept_book.specs.declared.book_answer.Lease.{Lease}
use Rattle.accept_book.specs.declared.book_answer.Negotiated.{Negotiated}
use Rattle.accept_book.specs.RecordRule.{record_ruling}
use Rattle.accept_book.specs.RecordShown.{Asked, Ruling, booked, with_ok}
use Rattle.gss_server.specs.Connections.{asked_for, asked_in, AllExact}
use Rattle.gss_server.specs.Hearing.{kept_answers, count_of, serving}
use Rattle.gss_server.specs.Receipts.{of_step, of_call, of_end, receipts_of}
use Rattle.gss_server.specs.declared.answer.Kept.{Kept}
use Rattle.gss_server.specs.declared.connection.Served.{Served}
use Rattle.gss_server.specs.declared.keeper.Keeper as keepers
use Rattle.book_seats.specs.Notes.{Noted, receipted, noted_by, noted_in, asked_by}
use Rattle.book_seats.proofs.Books.{books-asked, all-booked}
use Rattle.std.proofs.lemmas.List.{map-append}
use Rattle.book_seats.specs.Weights.{weigh, total}
use Rattle.history_laws.specs.Receipts.{receipts_in}
use Rattle.server_desks.specs.Desks.{ServedOf, ServedLink, LinksServed, answers_in, run_limit}
use Rattle.server_desks.specs.declared.desk.Desk.{Desk}
use Rattle.server_desks.specs.declared.desk.DeskEnd.{DeskEnd}
use Rattle.server_desks.proofs.InStep.{there}
use Rattle.server_seating.specs.SideBySide.{DeskAsked, DeskTold, unasked, Hears}
use Rattle.server_seating.proofs.Heard.{Heard, AllHear, heard-all}
use Rattle.world_laws.proofs.RulingPlan.{Late, Rules, Admits, Ends, Plan, Decides, Steps, Looks, late_by, plan_by, record-planned}
use Rattle.server_laws.specs.KeptReceipts.{KeptLaw, KeepsReceipts, kept_weight, KeptReceiptsLaw}
use Rattle.server_laws.proofs.AllDesks.{weigh-append, of-all-desks}

-- ---- lists

receipts-append : (xs ys : List (Asked Receipt)) → flat_map receipts_in (xs ++ ys) ≡ flat_map receipts_in xs ++ flat_map receipts_in ys
receipts-append [] ys = refl
receipts-append (x ∷ xs) ys = ap (λ (l : List Receipt). receipts_in x ++ l) (receipts-append xs ys) ∙ sym (append_assoc (receipts_in x) (flat_map receipts_in xs) (flat_map receipts_in ys))

kept-append : (xs ys : List Kept) → flat_map receipts_of (xs ++ ys) ≡ flat_map receipts_of xs ++ flat_map receipts_of ys
kept-append [] ys = refl
kept-append (x ∷ xs) ys = ap (λ (l : List Receipt). receipts_of x ++ l) (kept-append xs ys) ∙ sym (append_assoc (receipts_of x) (flat_map receipts_of xs) (flat_map receipts_of ys))

-- ---- one record

abbrev StepKept : Type 0
StepKept = Option Negotiated

abbrev LookKept : Type 0
LookKept = Option (Result Lease LookRefusal)

abbrev CallKept : Type 0
CallKept = Option (Result Admitted AdmitRefusal)

abbrev EndKept : Type 0
EndKept = Option (Result Receipt AdmitRefusal)

-- no answer has receipts
none-kept : (n : StepKept) (l : LookKept) (a : CallKept) (e : EndKept) → 0 ≡ count_of n l a e → of_step n ++ (of_call a ++ of_end e) ≡ []
none-kept None l None None h = refl
none-kept (Some x) l a e h = absurd (omega (arith, h))
none-kept None l (Some x) e h = absurd (omega (arith, h))
none-kept None l None (Some x) h = absurd (omega (arith, h))

look-kept : (n : StepKept) (looked : Result Lease LookRefusal) (a : CallKept) (e : EndKept) → 1 ≡ count_of n (Some looked) a e → of_step n ++ (of_call a ++ of_end e) ≡ []
look-kept None looked None None h = refl
look-kept (Some x) looked a e h = absurd (omega (arith, h))
look-kept None looked (Some x) e h = absurd (omega (arith, h))
look-kept None looked None (Some x) h = absurd (omega (arith, h))

step-kept : (answer : Negotiated) (l : LookKept) (a : CallKept) (e : EndKept) → 1 ≡ count_of (Some answer) l a e → of_step (Some answer) ++ (of_call a ++ of_end e) ≡ given answer.receipts ++ []
step-kept answer l None None h = refl
step-kept answer l (Some x) e h = absurd (omega (arith, h))
step-kept answer l None (Some x) h = absurd (omega (arith, h))

-- the receipt of a call, as the book has it
call-booked : (answer : Result Admitted AdmitRefusal) → of_call (Some answer) ≡ of_end (Some (with_ok (λ admitted. admitted.receipt) answer))
call-booked (Ok admitted) = refl
call-booked (Err refusal) = refl

admit-kept : (n : StepKept) (looked : Result Lease LookRefusal) (answer : Result Admitted AdmitRefusal) (e : EndKept) → 2 ≡ count_of n (Some looked) (Some answer) e → of_step n ++ (of_call (Some answer) ++ of_end e) ≡ of_end (Some (with_ok (λ admitted. admitted.receipt) answer)) ++ []
admit-kept None looked answer None h = ap (λ (l : List Receipt). l ++ []) (call-booked answer)
admit-kept (Some x) looked answer e h = absurd (omega (arith, h))
admit-kept None looked answer (Some x) h = absurd (omega (arith, h))

end-kept : (n : StepKept) (looked : Result Lease LookRefusal) (a : CallKept) (answer : Result Receipt AdmitRefusal) → 2 ≡ count_of n (Some looked) a (Some answer) → of_step n ++ (of_call a ++ of_end (Some answer)) ≡ of_end (Some answer) ++ []
end-kept None looked None answer h = sym (append-nil (of_end (Some answer)))
end-kept (Some x) looked a answer h = absurd (omega (arith, h))
end-kept None looked (Some x) answer h = absurd (omega (arith, h))

late-kept : (late : Late) (n : StepKept) (looked : Result Lease LookRefusal) (a : CallKept) (e : EndKept) → 1 + length (late_by late a e).asked ≡ count_of n (Some looked) a e → of_step n ++ (of_call a ++ of_end e) ≡ flat_map receipts_in (map booked (late_by late a e).asked)
late-kept (Rules d) n looked a e h = look-kept n looked a e (omega (arith, h))
late-kept (Admits lease seq service procedure args by) n looked None e h = look-kept n looked None e (omega (arith, h))
late-kept (Admits lease seq service procedure args by) n looked (Some answer) e h = admit-kept n looked answer e (omega (arith, h))
late-kept (Ends lease seq by) n looked a None h = look-kept n looked a None (omega (arith, h))
late-kept (Ends lease seq by) n looked a (Some answer) h = end-kept n looked a answer (omega (arith, h))

plan-kept : (plan : Plan) (n : StepKept) (l : LookKept) (a : CallKept) (e : EndKept) → length (plan_by plan n l a e).asked ≡ count_of n l a e → of_step n ++ (of_call a ++ of_end e) ≡ flat_map receipts_in (map booked (plan_by plan n l a e).asked)
plan-kept (Decides d) n l a e h = none-kept n l a e h
plan-kept (Steps id token now draws by) None l a e h = none-kept None l a e h
plan-kept (Steps id token now draws by) (Some answer) l a e h = step-kept answer l a e h
plan-kept (Looks id now by) n None a e h = none-kept n None a e h
plan-kept (Looks id now by) n (Some looked) a e h = late-kept (by looked) n looked a e (omega (arith, h))

pub kept-law : KeptLaw
kept-law serves octets one exact =
    let p = record-planned octets one.now one.draws serves in
    let is : record_ruling octets (kept_answers one) serves ≡ plan_by p.plan one.negotiated one.looked one.admitted one.ended = p.is one.negotiated one.looked one.admitted one.ended in
    plan-kept p.plan one.negotiated one.looked one.admitted one.ended (ap (λ (r : Ruling). length r.asked) (sym is) ∙ exact.0)
    ∙ ap (λ (r : Ruling). flat_map receipts_in (map booked r.asked)) (sym is)

-- ---- records in a row

records-kept : (serves : Serving) (records : List Fragments) (kept : List Kept) → length records ≡ length kept → AllExact serves records kept → flat_map receipts_of kept ≡ flat_map receipts_in (map booked (asked_in serves records kept))
records-kept serves [] [] count exact = refl
records-kept serves [] (one ∷ kept) count exact = absurd (omega (arith, count))
records-kept serves (cut ∷ records) [] count exact = absurd (omega (arith, count))
records-kept serves (cut ∷ records) (one ∷ kept) count exact =
    (λ i. kept-law serves (octets_in cut) one exact.0 i ++ records-kept serves records kept (omega (arith, count)) exact.1 i)
    ∙ sym (receipts-append (map booked (asked_for serves (octets_in cut) one)) (map booked (asked_in serves records kept)))
    ∙ ap (flat_map receipts_in) (sym (map-append booked (asked_for serves (octets_in cut) one) (asked_in serves records kept)))

-- the receipts are told as the book gave them
heard-receipts : (first one : Asked Admitted) → Heard first one → receipts_in (booked first) ≡ receipts_in (booked one)
heard-receipts first one (inl same) = ap (λ (a : Asked Admitted). receipts_in (booked a)) (sym same)
heard-receipts first one (inr held) = ap (λ (a : Asked Admitted). receipts_in (booked a)) held.1.asked ∙ sym (ap (λ (a : Asked Admitted). receipts_in (booked a)) held.1.told)

all-heard : (firsts ones : List (Asked Admitted)) → AllHear firsts ones → flat_map receipts_in (map booked firsts) ≡ flat_map receipts_in (map booked ones)
all-heard [] [] h = refl
all-heard [] (one ∷ ones) h = absurd h
all-heard (first ∷ firsts) [] h = absurd h
all-heard (first ∷ firsts) (one ∷ ones) h = λ i. heard-receipts first one h.0 i ++ all-heard firsts ones h.1 i

-- ---- one desk

-- the questions behind those that a desk asked before, and the answers that were kept meanwhile
record Adds {T W : Type 0} (before after : DeskAsked T W) (kept : List Kept) : Type 0 where
  notes : List (Noted T)
  noted_is : after.noted ≡ before.noted ++ notes
  same : flat_map receipts_of kept ≡ flat_map receipts_in (map receipted notes)

adds-join : {T W : Type 0} (before middle after : DeskAsked T W) (xs ys : List Kept) → Adds before middle xs → Adds middle after ys → Adds before after (xs ++ ys)
adds-join {T} {W} before middle after xs ys f s = record {
  notes = f.notes ++ s.notes;
  noted_is = s.noted_is ∙ (ap (λ (l : List (Noted T)). l ++ s.notes) f.noted_is ∙ append_assoc before.noted f.notes s.notes);
  same = kept-append xs ys ∙ (λ i. f.same i ++ s.same i) ∙ sym (receipts-append (map receipted f.notes) (map receipted s.notes)) ∙ ap (flat_map receipts_in) (sym (map-append receipted f.notes s.notes));
}

link-adds : {T W L : Type 0} (spelling : spellers.Ghosts W T) (journaled : Bool) (serves : Serving) (link : links.Ghosts L) (before : DeskAsked T W) (old : L) (one : ServedOf L) (after : DeskAsked T W) → ServedLink (Hears spelling journaled) serves link before old one after → Adds before after one.answers
link-adds spelling journaled serves link before old one after s =
    let n = heard-all spelling journaled before after (asked_in serves s.served.records one.answers) s.served.asked in record {
      notes = n.notes;
      noted_is = n.noted_is;
      same = records-kept serves s.served.records one.answers s.served.counted s.served.exact ∙ sym (all-heard n.firsts (asked_in serves s.served.records one.answers) n.hear)
          ∙ ap (flat_map receipts_in) (all-booked spelling n.notes n.firsts before.speller after.speller n.told);
    }

links-add : {T W L : Type 0} (spelling : spellers.Ghosts W T) (journaled : Bool) (serves : Serving) (link : links.Ghosts L) (before : DeskAsked T W) (olds : List L) (served : List (ServedOf L)) (after : DeskAsked T W) → LinksServed (Hears spelling journaled) serves link before olds served after
    → Adds before after (answers_in served)
links-add {T} {W} spelling journaled serves link before [] [] after s = record { notes = []; noted_is = ap (λ (d : DeskAsked T W). d.noted) s ∙ sym (append-nil before.noted); same = refl }
links-add spelling journaled serves link before [] (one ∷ more) after s = absurd s
links-add spelling journaled serves link before (old ∷ olds) [] after s = absurd s
links-add spelling journaled serves link before (old ∷ olds) (one ∷ more) after s =
    adds-join before s.0 after one.answers (answers_in more) (link-adds spelling journaled serves link before old one s.0 s.1) (links-add spelling journaled serves link s.0 olds more after s.2)

kept-parts : {K : Type 0} (keeper : keepers.Ghosts K Kept Receipt) → KeepsReceipts keeper → (kept : List Kept) → flat_map keeper.parts kept ≡ flat_map receipts_of kept
kept-parts keeper keeps [] = refl
kept-parts keeper keeps (one ∷ kept) = λ i. keeps one i ++ kept-parts keeper keeps kept i

desk-kept : {P C D K M T W L R : Type 0} (spelling : spellers.Ghosts W T) (journaled : Bool) (faults faults' : ℕ) (serves : Serving) (most : ℕ) (port : ports.Ghosts P L) (link : links.Ghosts L) (clock : clocks.Ghosts C) (draw : draws.Ghosts D) (keeper : keepers.Ghosts K Kept Receipt)
    (kept : keepers.Ghosts M (Served L) R) (i : ℕ) (old : Desk P C D K M W) (ending : DeskEnd) (new : Desk P C D K M W) (noted : List (Noted T)) → KeepsReceipts keeper
    → DeskTold spelling journaled faults faults' serves most port link clock draw keeper kept i old ending new noted → keeper.kept new.keeper ≡ keeper.kept old.keeper ++ flat_map receipts_in (map receipted noted)
desk-kept {T = T} {W = W} spelling journaled faults faults' serves most port link clock draw keeper kept i old ending new noted keeps t =
    let went = t.served.went in
    let after : DeskAsked T W = record { desk = i; noted = noted; speller = new.speller; failed = t.failed } in
    let a = links-add spelling journaled serves link (unasked i old.speller) went.links went.served after went.each in
    went.gave.answers
    ∙ ap (λ (l : List Receipt). keeper.kept old.keeper ++ l) (kept-parts keeper keeps (answers_in went.served) ∙ a.same ∙ ap (λ (l : List (Noted T)). flat_map receipts_in (map receipted l)) (sym a.noted_is))

-- ---- all desks

total-first : (n : ℕ) (f : ℕ → ℕ) → total (suc n) f ≡ f 0 + total n (λ i. f (suc i))
total-first zero f = refl
total-first (suc n) f = omega (arith, total-first n f)

sums : {D : Type 0} (w : D → ℕ) (f : ℕ → ℕ) (olds news : List D) → length news ≡ length olds → ((i : ℕ) (old new : D) → slice_get olds i ≡ Some old → slice_get news i ≡ Some new → w new ≡ w old + f i)
    → weigh w news ≡ weigh w olds + total (length olds) f
sums w f [] [] count each = refl
sums w f [] (new ∷ news) count each = absurd (omega (arith, count))
sums w f (old ∷ olds) [] count each = absurd (omega (arith, count))
sums w f (old ∷ olds) (new ∷ news) count each =
    let rest = sums w (λ i. f (suc i)) olds news (omega (arith, count)) (λ i a b p q. each (suc i) a b p q) in
    (λ i. each 0 old new refl refl i + rest i) ∙ shuffled (w old) (f 0) (weigh w olds) (total (length olds) (λ i. f (suc i))) (total (suc (length olds)) f) (total-first (length olds) f)
  where
    shuffled : (a b c d t : ℕ) → t ≡ b + d → (a + b) + (c + d) ≡ (a + c) + t
    shuffled a b c d t e = omega (arith, e)

pub kept-receipts : {V P C D K M T W L R : Type 0} (served : programs.Ghosts V T) (spelling : spellers.Ghosts W T) (port : ports.Ghosts P L) (link : links.Ghosts L) (clock : clocks.Ghosts C) (draw : draws.Ghosts D) (keeper : keepers.Ghosts K Kept Receipt) (kept : keepers.Ghosts M (Served L) R)
    → KeptReceiptsLaw served spelling port link clock draw keeper kept
kept-receipts {V} {P} {C} {D} {K} {M} {T} {W} served spelling port link clock draw keeper kept keeps options keys start faults faults' olds before end news after log one =
    let each : (i : ℕ) (old new : Desk P C D K M W) → slice_get olds i ≡ Some old → slice_get news i ≡ Some new → keeper.kept new.keeper ≡ keeper.kept old.keeper ++ flat_map receipts_in (asked_by i one.all) =
    λ i old new a b.
    let ending = there olds one.ends i old one.ends_count a in
    desk-kept spelling (is_some options.files.journal) faults faults' (serving spelling.says options.window) (run_limit options.connections (length olds)) port link clock draw keeper kept i old ending.0 new (noted_by i one.all) keeps
    (one.each i old new ending.0 a ending.1 b) in
    record {
      each = each;
      together = λ weight.
          sums (λ desk. weigh weight (keeper.kept desk.keeper)) (λ i. weigh weight (flat_map receipts_in (asked_by i one.all))) olds news one.count
          (λ i old new a b. ap (weigh weight) (each i old new a b) ∙ weigh-append weight (keeper.kept old.keeper) (flat_map receipts_in (asked_by i one.all)))
          ∙ ap (λ (n : ℕ). kept_weight keeper.kept weight olds + n)
          (of-all-desks (length olds) weight one.all one.first.book one.last.book one.opened.opened.history (books-asked served (noted_in one.all) one.first one.last one.chain)
          (λ desk le. ap (λ (l : List (Noted T)). map receipted l) (one.others desk le)) ∙ ap (λ (h : List Entry). weigh weight (gained 0 h)) (sym one.closed.entries));
    }
