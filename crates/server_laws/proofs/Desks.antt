-- What the desks of a run asked is one history, and each desk's records are scripts of its own questions.
use Rattle.std.specs.List.{AllByRecursion}
use Rattle.std.proofs.Common.{◌≡◌, ◌∙◌, inl, inr, ℕ, map, true, Bool, is_some, zero, suc, ◌<◌, ◌≤◌, refl, ap, sym, subst, arith, append_assoc, append-nil, List, [], ◌∷◌, ◌++◌, length, reverse, slice_get, Option, Some, None}
use Rattle.std.proofs.lemmas.List.{length-append, map-append}
use Rattle.std.proofs.lemmas.Option.{none-some, same_Some}
use Rattle.sec_base.specs.declared.port.Port as ports
use Rattle.sec_base.specs.declared.link.Link as links
use Rattle.sec_base.specs.declared.clock.Clock as clocks
use Rattle.sec_base.specs.declared.draw.Draw as draws
use Rattle.rpc_msgs.specs.Records.{Fragments, octets_in}
use Rattle.accept_book.specs.Booking.{BookOf}
use Rattle.accept_core.specs.Legal.{Legal}
use Rattle.accept_core.specs.Logs.{LogOf}
use Rattle.accept_book.specs.RecordShown.{Asked, booked}
use Rattle.accept_book.specs.declared.book_answer.Admitted.{Admitted}
use Rattle.accept_core.specs.declared.entry.Receipt.{Receipt}
use Rattle.rpc_program.specs.Programs.{ProgramSays, Serving}
use Rattle.rpc_program.specs.declared.program.Program as programs
use Rattle.rpc_program.specs.declared.program.Speller as spellers
use Rattle.accept_core.specs.declared.entry.Entry.{Entry}
use Rattle.accept_book.specs.RecordShown.{Ruling}
use Rattle.gss_server.specs.Answers.{IsLost, may_want}
use Rattle.gss_server.specs.Asking.{Asking, BookAnswers}
use Rattle.gss_server.specs.Connections.{ruling_for, asked_for, asked_in, AllInOrder, AllExact, AllDecided, LastIs, IsAnswered}
use Rattle.gss_server.specs.declared.answer.Kept.{Kept}
use Rattle.gss_server.specs.declared.connection.ConnEnd.{ConnEnd}
use Rattle.gss_server.specs.declared.connection.ConnEnd.TheVariants.{Ended, LinkFault, TooLong, TooManyFragments, Torn, Budget, Lost, NoMemory}
use Rattle.gss_server.specs.declared.connection.Served.{Served}
use Rattle.gss_server.specs.declared.keeper.Keeper as keepers
use Rattle.gss_server.proofs.Turning.{all-push}
use Rattle.gss_server.specs.Hearing.{serving}
use Rattle.book_seats.specs.Notes.{Note, Noted, receipted, noted_by, noted_in}
use Rattle.book_seats.proofs.Books.{books-asked, all-booked}
use Rattle.server_desks.specs.Desks.{ServedOf, ServedLink, LinksServed, run_limit}
use Rattle.server_seating.specs.SideBySide.{DeskAsked, DeskTold, unasked, Hears}
use Rattle.server_seating.proofs.Heard.{AllHear, heard-all, none-heard, parts}
use Rattle.server_command.proofs.Lending.{get-past}
use Rattle.server_command.specs.Through.{IsOpened}
use Rattle.server_desks.specs.Courses.{IsLogOf}
use Rattle.server_desks.specs.declared.desk.Desk.{Desk}
use Rattle.server_desks.specs.declared.desk.DeskEnd.{DeskEnd}
use Rattle.server_options.specs.declared.keys.Keys.{Keys}
use Rattle.server_options.specs.declared.options.Options.{Options}
use Rattle.world_laws.specs.State.{InHand, World}
use Rattle.world_laws.specs.Apart.{ToldApart}
use Rattle.server_laws.specs.Apart.{SpellsApart}
use Rattle.server_laws.specs.Beside.{AreFree}
use Rattle.server_laws.specs.Served.{IsOver, Meanwhile}
use Rattle.server_laws.specs.ServerRun.{opened_book, book_notes, hand_of, hands_of, hands_in, DeskHad, AreTheirs, LogIsRun, ServerIsRun}
use Rattle.server_laws.proofs.Beside.{Scripts, questions_in, beside}
use Rattle.server_laws.proofs.Openings.{history-goes}
use Rattle.server_laws.proofs.ToldOf.{IsTaken, all-taken, own-taken, all-apart, all-front, all-back, booked-notes, questions-booked}
use Rattle.server_laws.proofs.Turns.{heard-script}

-- ---- one connection

abbrev OverAt : Serving → List ℕ → Kept → Type 0
OverAt serves octets one = IsOver (ruling_for serves octets one)

each-script : (serves : Serving) (records : List Fragments) (kept : List Kept) (firsts : List (Asked Admitted)) → AllExact serves records kept → AllInOrder (OverAt serves) records kept → AllHear firsts (asked_in serves records kept) → AllByRecursion ToldApart firsts
    → Scripts serves (hands_of records kept) (map booked firsts)
each-script serves [] kept firsts exact over h apart = ap (map booked) (none-heard firsts h)
each-script serves (cut ∷ records) [] firsts exact over h apart = ap (map booked) (none-heard firsts h)
each-script serves (cut ∷ records) (one ∷ kept) firsts exact over h apart =
    let p = parts firsts (asked_for serves (octets_in cut) one) (asked_in serves records kept) h in
    let both : AllByRecursion ToldApart (p.early ++ p.late) = subst (λ (xs : List (Asked Admitted)). AllByRecursion ToldApart xs) p.is apart in (
      p.early,
      map booked p.late,
      ap (map booked) p.is ∙ map-append booked p.early p.late,
      exact.0.1,
      heard-script serves (hand_of (octets_in cut) one) p.early over.0 p.first (all-front ToldApart p.early p.late both),
      each-script serves records kept p.late exact.1 over.1 p.second (all-back ToldApart p.early p.late both),
    )

decided-over : (serves : Serving) (records : List Fragments) (kept : List Kept) → AllDecided serves records kept → AllInOrder (OverAt serves) records kept
decided-over serves [] kept decided = tt
decided-over serves (cut ∷ records) [] decided = tt
decided-over serves (cut ∷ records) (one ∷ kept) decided = (inl decided.0.0, decided-over serves records kept decided.1)

last-over : (serves : Serving) (Is : Ruling → Type 0) → ((r : Ruling) → Is r → IsOver r) → (records : List Fragments) (kept : List Kept) → length records ≡ length kept → LastIs Is serves records kept → AllInOrder (OverAt serves) records kept
last-over serves Is over records kept counted w =
    subst (λ (rs : List Fragments). AllInOrder (OverAt serves) rs kept) (sym w.cut)
    (subst (λ (ks : List Kept). AllInOrder (OverAt serves) (w.earlier ++ w.last ∷ []) ks) (sym w.keeps)
    (all-push (OverAt serves) w.earlier w.before w.last w.one
    (omega (arith, counted, ap (length {A = Fragments}) w.cut, ap (length {A = Kept}) w.keeps, length-append w.earlier (w.last ∷ []), length-append w.before (w.one ∷ [])))
    (decided-over serves w.earlier w.before w.decided) (over (ruling_for serves (octets_in w.last) w.one) w.ruled)))

answered-over : (ending : ConnEnd) (serves : Serving) (records : List Fragments) (kept : List Kept) → length records ≡ length kept → IsAnswered ending serves records kept → AllInOrder (OverAt serves) records kept
answered-over Ended serves records kept counted a = decided-over serves records kept a
answered-over LinkFault serves records kept counted a = decided-over serves records kept a
answered-over TooLong serves records kept counted a = decided-over serves records kept a
answered-over TooManyFragments serves records kept counted a = decided-over serves records kept a
answered-over Torn serves records kept counted a = decided-over serves records kept a
answered-over Budget serves records kept counted a = decided-over serves records kept a
answered-over Lost serves records kept counted a = last-over serves IsLost (λ r lost. inl (lost-decides r lost)) records kept counted a
  where
    lost-decides : (r : Ruling) → IsLost r → 0 < r.rule
    lost-decides r lost = omega (arith, lost)
answered-over NoMemory serves records kept counted (inl a) = decided-over serves records kept a
answered-over NoMemory serves records kept counted (inr a) = last-over serves (λ r. may_want r ≡ true) (λ r wanted. inr wanted) records kept counted a

-- ---- the links of a desk

scripts-join : (serves : Serving) (front later : List InHand) (first second : List (Asked Receipt)) → Scripts serves front first → Scripts serves later second → Scripts serves (front ++ later) (first ++ second)
scripts-join serves [] later first second none s = subst (λ (xs : List (Asked Receipt)). Scripts serves later (xs ++ second)) (sym none) s
scripts-join serves (hand ∷ front) later first second f s =
    (f.0, f.1 ++ second, ap (λ xs. xs ++ second) f.2 ∙ append_assoc (map booked f.0) f.1 second, f.3, f.4, scripts-join serves front later f.1 second f.5 s)

-- the questions of records, behind those that a desk asked before
record Asks {T W : Type 0} (serves : Serving) (before : DeskAsked T W) (hands : List InHand) (after : DeskAsked T W) : Type 0 where
  notes : List (Noted T)
  noted_is : after.noted ≡ before.noted ++ notes
  scripts : Scripts serves hands (map receipted notes)

asks-join : {T W : Type 0} (serves : Serving) (before middle after : DeskAsked T W) (front later : List InHand) → Asks serves before front middle → Asks serves middle later after → Asks serves before (front ++ later) after
asks-join {T} {W} serves before middle after front later f s = record {
  notes = f.notes ++ s.notes;
  noted_is = s.noted_is ∙ (ap (λ (xs : List (Noted T)). xs ++ s.notes) f.noted_is ∙ append_assoc before.noted f.notes s.notes);
  scripts = subst (λ (xs : List (Asked Receipt)). Scripts serves (front ++ later) xs) (sym (map-append receipted f.notes s.notes))
      (scripts-join serves front later (map receipted f.notes) (map receipted s.notes) f.scripts s.scripts);
}

link-asks : {T W L : Type 0} (says : ProgramSays) (spelling : spellers.Ghosts W T) → SpellsApart says spelling → (journaled : Bool) (serves : Serving) (link : links.Ghosts L) (before : DeskAsked T W) (old : L) (one : ServedOf L) (after : DeskAsked T W) (s : ServedLink (Hears spelling journaled) serves link before old one after)
    → AllByRecursion (IsTaken says) after.noted → Asks serves before (hands_of s.served.records one.answers) after
link-asks {T} says spelling apart journaled serves link before old one after s takes =
    let n = heard-all spelling journaled before after (asked_in serves s.served.records one.answers) s.served.asked in
    let taken : AllByRecursion (IsTaken says) n.notes = all-back (IsTaken says) before.noted n.notes (subst (λ (xs : List (Noted T)). AllByRecursion (IsTaken says) xs) n.noted_is takes) in record {
      notes = n.notes;
      noted_is = n.noted_is;
      scripts = subst (λ (xs : List (Asked Receipt)). Scripts serves (hands_of s.served.records one.answers) xs) (all-booked spelling n.notes n.firsts before.speller after.speller n.told)
          (each-script serves s.served.records one.answers n.firsts s.served.exact (answered-over one.served.end serves s.served.records one.answers s.served.counted s.served.answered) n.hear
          (all-apart says spelling apart n.notes n.firsts before.speller after.speller taken n.told));
    }

links-ask : {T W L : Type 0} (says : ProgramSays) (spelling : spellers.Ghosts W T) → SpellsApart says spelling → (journaled : Bool) (serves : Serving) (link : links.Ghosts L) (before : DeskAsked T W) (olds : List L) (served : List (ServedOf L)) (after : DeskAsked T W)
    (s : LinksServed (Hears spelling journaled) serves link before olds served after) → AllByRecursion (IsTaken says) after.noted → Asks serves before (hands_in (Hears spelling journaled) serves link before olds served after s) after
links-ask {T} {W} says spelling apart journaled serves link before [] [] after s takes = record { notes = []; noted_is = ap (λ (d : DeskAsked T W). d.noted) s ∙ sym (append-nil before.noted); scripts = refl }
links-ask says spelling apart journaled serves link before [] (one ∷ more) after s takes = absurd s
links-ask says spelling apart journaled serves link before (old ∷ olds) [] after s takes = absurd s
links-ask {T} {W} says spelling apart journaled serves link before (old ∷ olds) (one ∷ more) after s takes =
    let later : Asks serves s.0 (hands_in (Hears spelling journaled) serves link s.0 olds more after s.2) after = links-ask says spelling apart journaled serves link s.0 olds more after s.2 takes in
    let earlier : AllByRecursion (IsTaken says) s.0.noted = all-front (IsTaken says) s.0.noted later.notes (subst (λ (xs : List (Noted T)). AllByRecursion (IsTaken says) xs) later.noted_is takes) in
    asks-join serves before s.0 after (hands_of s.1.served.records one.answers) (hands_in (Hears spelling journaled) serves link s.0 olds more after s.2)
    (link-asks says spelling apart journaled serves link before old one s.0 s.1 earlier) later

-- ---- each desk

get-below : {A : Type 0} (xs : List A) (i : ℕ) (x : A) → slice_get xs i ≡ Some x → i < length xs
get-below [] i x e = absurd (none-some x e)
get-below (y ∷ ys) zero x e = omega arith
get-below (y ∷ ys) (suc i) x e = omega (arith, get-below ys i x e)

-- a desk's records, by the questions that it asked
record Own {D : Type 0} (serves : Serving) (Had : D → DeskEnd → D → List InHand → Type 0) (olds : List D) (ends : List DeskEnd) (news : List D) (i : ℕ) (asked : List (Asked Receipt)) : Type 0 where
  hands : List InHand
  scripts : i < length olds → Scripts serves hands asked
  theirs : (old new : D) (ending : DeskEnd) → slice_get olds i ≡ Some old → slice_get ends i ≡ Some ending → slice_get news i ≡ Some new → Had old ending new hands
  past : length olds ≤ i → hands ≡ []

-- a desk that stands there, and was served
served-own : {D : Type 0} (serves : Serving) (Had : D → DeskEnd → D → List InHand → Type 0) (olds : List D) (ends : List DeskEnd) (news : List D) (i : ℕ) (asked : List (Asked Receipt)) (old new : D) (ending : DeskEnd) (hands : List InHand)
    → slice_get olds i ≡ Some old → slice_get ends i ≡ Some ending → slice_get news i ≡ Some new → Scripts serves hands asked → Had old ending new hands → Own serves Had olds ends news i asked
served-own serves Had olds ends news i asked old new ending hands a b c scripts had = record {
  hands = hands;
  scripts = λ below. scripts;
  theirs = λ x z y p q r.
      subst (λ o. Had o y z hands) (same_Some old x (sym a ∙ p))
      (subst (λ e. Had old e z hands) (same_Some ending y (sym b ∙ q)) (subst (λ n. Had old ending n hands) (same_Some new z (sym c ∙ r)) had));
  past = λ le. let lt = get-below olds i old a in absurd (omega (arith, le, lt));
}

-- a place at which no desk stands
no-own : {D : Type 0} (serves : Serving) (Had : D → DeskEnd → D → List InHand → Type 0) (olds : List D) (ends : List DeskEnd) (news : List D) (i : ℕ) (asked : List (Asked Receipt)) → (i < length olds → ⊥)
    → Own serves Had olds ends news i asked
no-own serves Had olds ends news i asked none = record {
  hands = [];
  scripts = λ below. absurd (none below);
  theirs = λ x z y p q r. absurd (none (get-below olds i x p));
  past = λ le. refl;
}

own-by : {D : Type 0} (serves : Serving) (Had : D → DeskEnd → D → List InHand → Type 0) (olds : List D) (ends : List DeskEnd) (news : List D) (i : ℕ) (asked : List (Asked Receipt)) (old : Option D) (ending : Option DeskEnd) (new : Option D)
    → length news ≡ length olds → length ends ≡ length olds → slice_get olds i ≡ old → slice_get ends i ≡ ending → slice_get news i ≡ new
    → ((old new : D) (ending : DeskEnd) → slice_get olds i ≡ Some old → slice_get ends i ≡ Some ending → slice_get news i ≡ Some new → (hands : List InHand) × Scripts serves hands asked × Had old ending new hands)
    → Own serves Had olds ends news i asked
own-by serves Had olds ends news i asked None ending new count ends_count a b c had = no-own serves Had olds ends news i asked (λ below. let le = get-past olds i a in omega (arith, le, below))
own-by serves Had olds ends news i asked (Some old) None new count ends_count a b c had =
    no-own serves Had olds ends news i asked (λ below. let le = get-past ends i b in omega (arith, le, below, ends_count))
own-by serves Had olds ends news i asked (Some old) (Some ending) None count ends_count a b c had =
    no-own serves Had olds ends news i asked (λ below. let le = get-past news i c in omega (arith, le, below, count))
own-by serves Had olds ends news i asked (Some old) (Some ending) (Some new) count ends_count a b c had =
    let h = had old new ending a b c in served-own serves Had olds ends news i asked old new ending h.0 a b c h.1 h.2

-- ---- the run of the server

desk-had : {P C D K M T W L Q R : Type 0} (says : ProgramSays) (spelling : spellers.Ghosts W T) → SpellsApart says spelling → (journaled : Bool) (faults faults' : ℕ) (serves : Serving) (most : ℕ) (port : ports.Ghosts P L) (link : links.Ghosts L) (clock : clocks.Ghosts C) (draw : draws.Ghosts D) (keeper : keepers.Ghosts K Kept Q)
    (kept : keepers.Ghosts M (Served L) R) (i : ℕ) (old : Desk P C D K M W) (ending : DeskEnd) (new : Desk P C D K M W) (noted : List (Noted T))
    → AllByRecursion (IsTaken says) noted → DeskTold spelling journaled faults faults' serves most port link clock draw keeper kept i old ending new noted
    → (hands : List InHand) × Scripts serves hands (map receipted noted) × DeskHad spelling journaled faults faults' serves most port link clock draw keeper kept i old ending new noted hands
desk-had {T = T} {W = W} says spelling apart journaled faults faults' serves most port link clock draw keeper kept i old ending new noted takes t =
    let s = t.served in
    let after : DeskAsked T W = record { desk = i; noted = noted; speller = new.speller; failed = t.failed } in
    let a = links-ask says spelling apart journaled serves link (unasked i old.speller) s.went.links s.went.served after s.went.each takes in (
      hands_in (Hears spelling journaled) serves link (unasked i old.speller) s.went.links s.went.served after s.went.each,
      subst (λ (xs : List (Noted T)). Scripts serves (hands_in (Hears spelling journaled) serves link (unasked i old.speller) s.went.links s.went.served after s.went.each) (map receipted xs)) (sym a.noted_is) a.scripts,
      record { told = t; are = refl },
    )

server-by : {T : Type 0} (Are : (ℕ → List InHand) → Type 0) (serves : Serving) (options : Options) (keys : Keys) (start desks : ℕ) (first last : BookOf) (log : LogOf) (notes : List (Note T)) (hands : ℕ → List InHand)
    → IsOpened options keys start first → IsLogOf last log → Asking BookAnswers first (map receipted (noted_in notes)) last → Legal log.width (reverse log.entries) → Are hands
    → ((i : ℕ) → i < desks → Scripts serves (hands i) (map receipted (noted_by i notes))) → ((i : ℕ) → desks ≤ i → hands i ≡ []) → ((i : ℕ) → desks ≤ i → noted_by i notes ≡ [])
    → (w : World) (lane : ℕ → ℕ) (meanwhile : (w : World) → Meanwhile w) → w.book ≡ opened_book options keys start → w.serves ≡ serves → AreFree w lane desks
    → LogIsRun Are lane meanwhile (book_notes notes) w (reverse log.entries)
server-by {T} Are serves options keys start desks first last log notes hands opens closed chain legal theirs scripts past others w lane meanwhile is same free =
    let end : Legal last.core.width last.core.history = subst (λ (x : List Entry). Legal last.core.width x) closed.entries (subst (λ (n : ℕ). Legal n (reverse log.entries)) closed.width legal) in
    let asked : Asking BookAnswers first (questions_in (book_notes notes)) last = subst (λ (xs : List (Asked Receipt)). Asking BookAnswers first xs last) (sym (questions-booked notes)) chain in
    let h = history-goes options keys start first last (questions_in (book_notes notes)) opens asked end w is in record {
      hands = hands;
      theirs = theirs;
      book = h.book;
      logged = h.logged ∙ sym closed.entries;
      runs = beside serves desks lane free.apart meanwhile h.book (book_notes notes) hands w
          (record {
            same = same;
            legal = h.legal;
            each = λ i below. inl (record { free = free.free i below; scripts = subst (λ (xs : List (Asked Receipt)). Scripts serves (hands i) xs) (sym (booked-notes i notes)) (scripts i below) });
            behind = past;
            others = λ i le. booked-notes i notes ∙ ap (λ (xs : List (Noted T)). map receipted xs) (others i le);
          }) h.answers;
    }

pub server-run : {V P C D K M T W L Q R : Type 0} (served : programs.Ghosts V T) (spelling : spellers.Ghosts W T) (port : ports.Ghosts P L) (link : links.Ghosts L) (clock : clocks.Ghosts C) (draw : draws.Ghosts D) (keeper : keepers.Ghosts K Kept Q)
    (kept : keepers.Ghosts M (Served L) R) → ServerIsRun served spelling port link clock draw keeper kept
server-run {V} {P} {C} {D} {K} {M} {T} {W} served spelling port link clock draw keeper kept apart options keys start faults faults' olds before end news after log one legal w lane meanwhile is same free =
    let serves : Serving = serving spelling.says options.window in
    let most : ℕ = run_limit options.connections (length olds) in
    let journaled : Bool = is_some options.files.journal in
    let takes : AllByRecursion (IsTaken served.says) (noted_in one.all) = all-taken served (noted_in one.all) one.first one.last one.chain in
    let own : (i : ℕ) → Own serves (λ (old : Desk P C D K M W) (ending : DeskEnd) (new : Desk P C D K M W) (hands : List InHand).
    DeskHad spelling journaled faults faults' serves most port link clock draw keeper kept i old ending new (noted_by i one.all) hands) olds one.ends news i (map receipted (noted_by i one.all)) =
    λ i. own-by serves (λ (old : Desk P C D K M W) (ending : DeskEnd) (new : Desk P C D K M W) (hands : List InHand).
    DeskHad spelling journaled faults faults' serves most port link clock draw keeper kept i old ending new (noted_by i one.all) hands) olds one.ends news i (map receipted (noted_by i one.all))
    (slice_get olds i) (slice_get one.ends i) (slice_get news i) one.count one.ends_count refl refl refl
    (λ old new ending a b c. desk-had served.says spelling apart journaled faults faults' serves most port link clock draw keeper kept i old ending new (noted_by i one.all) (own-taken served.says i one.all takes) (one.each i old new ending a b c)) in
    server-by (AreTheirs spelling journaled faults faults' serves most port link clock draw keeper kept olds one.ends news one.all) serves options keys start (length olds) one.first.book one.last.book log one.all (λ i. (own i).hands)
    one.opened.opened one.closed (books-asked served (noted_in one.all) one.first one.last one.chain) legal (record { each = λ i old new ending a b c. (own i).theirs old new ending a b c; others = λ i le. (own i).past le }) (λ i below. (own i).scripts below) (λ i le. (own i).past le) one.others w lane meanwhile is same free
