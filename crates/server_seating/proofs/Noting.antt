-- What a desk asked of its seat is, of the one history, what the desk asked.
use Rattle.std.proofs.Common.{◌≡◌, ℕ, Bool, List, [], ◌∷◌, ◌++◌, append-nil, refl, sym, ap, ◌∙◌, subst}
use Rattle.sec_base.specs.declared.port.Port as ports
use Rattle.sec_base.specs.declared.link.Link as links
use Rattle.sec_base.specs.declared.clock.Clock as clocks
use Rattle.sec_base.specs.declared.draw.Draw as draws
use Rattle.accept_book.specs.RecordShown.{Asked}
use Rattle.accept_book.specs.declared.book_answer.Admitted.{Admitted}
use Rattle.rpc_program.specs.Programs.{Serving}
use Rattle.rpc_program.specs.declared.program.Program as programs
use Rattle.rpc_program.specs.declared.program.Speller as spellers
use Rattle.gss_server.specs.Asking.{Asking}
use Rattle.gss_server.specs.declared.answer.Kept.{Kept}
use Rattle.gss_server.specs.declared.connection.Served.{Served}
use Rattle.gss_server.specs.declared.keeper.Keeper as keepers
use Rattle.book_seats.specs.Both.{BothOf}
use Rattle.book_seats.specs.Notes.{Note, Noted, noted_by}
use Rattle.book_seats.specs.Telling.{SeatAnswers}
use Rattle.book_seats.specs.Views.{ClerkOf}
use Rattle.book_seats.specs.Histories.{AnsweredBy}
use Rattle.book_seats.proofs.Moves.{of-append, of-own}
use Rattle.server_desks.specs.Desks.{ServedOf, ServedLink, LinksServed, DeskServed, with_speller}
use Rattle.journal_gate.specs.Withheld.{IsTold, JournalAnswers}
use Rattle.server_seating.specs.SideBySide.{DeskAsked, unasked, Hears}
use Rattle.server_desks.specs.declared.desk.Desk.{Desk}
use Rattle.server_desks.specs.declared.desk.DeskEnd.{DeskEnd}
use Rattle.server_desks.proofs.DeskRuns.{served-as}

-- ---- one state follows another

module _ {S T : Type 0} (A : S → Asked Admitted → S → Type 0) (B : T → Asked Admitted → T → Type 0) (f : S → T) (Is : S → Type 0) (step : (s : S) (x : Asked Admitted) (t : S) → Is s → A s x t → B (f s) x (f t)) (keep : (s : S) (x : Asked Admitted) (t : S) → Is s → A s x t → Is t) where
  asking-map : (asked : List (Asked Admitted)) (s t : S) → Is s → Asking A s asked t → Asking B (f s) asked (f t)
  asking-map [] s t is h = ap f h
  asking-map (x ∷ xs) s t is h = (f h.0, step s x h.0 is h.1, asking-map xs h.0 t (keep s x h.0 is h.1) h.2)

  asking-keeps : (asked : List (Asked Admitted)) (s t : S) → Is s → Asking A s asked t → Is t
  asking-keeps [] s t is h = subst Is (sym h) is
  asking-keeps (x ∷ xs) s t is h = asking-keeps xs h.0 t (keep s x h.0 is h.1) h.2

  link-map : {L : Type 0} (serves : Serving) (link : links.Ghosts L) (before : S) (old : L) (one : ServedOf L) (after : S) → Is before → ServedLink A serves link before old one after → ServedLink B serves link (f before) old one (f after)
  link-map serves link before old one after is h = record {
    served = served-as (λ asked p. asking-map asked before after is p) h.served;
    counted = h.counted;
    most = h.most;
    always = h.always;
    fault = h.fault;
    faultless = h.faultless;
    closed = h.closed;
  }

  links-map : {L : Type 0} (serves : Serving) (link : links.Ghosts L) (before : S) (links : List L) (served : List (ServedOf L)) (after : S) → Is before → LinksServed A serves link before links served after → LinksServed B serves link (f before) links served (f after) × Is after
  links-map serves link before [] [] after is h = (ap f h, subst Is (sym h) is)
  links-map serves link before [] (one ∷ more) after is h = absurd h
  links-map serves link before (old ∷ olds) [] after is h = absurd h
  links-map serves link before (old ∷ olds) (one ∷ more) after is h =
      let rest = links-map serves link h.0 olds more after (asking-keeps _ before h.0 is h.1.served.asked) h.2 in
      ((f h.0, link-map serves link before old one h.0 is h.1, rest.0), rest.1)

  desk-map : {P C D K M Y L Q R : Type 0} {serves : Serving} {most : ℕ} {port : ports.Ghosts P L} {link : links.Ghosts L} {clock : clocks.Ghosts C} {draw : draws.Ghosts D} {keeper : keepers.Ghosts K Kept Q} {kept : keepers.Ghosts M (Served L) R} (before after : S) (old new : Desk P C D K M Y) (end : DeskEnd) → Is before
      → DeskServed A serves most port link clock draw keeper kept before old end new after → DeskServed B serves most port link clock draw keeper kept (f before) old end new (f after) × Is after
  desk-map {serves = serves} {link = link} before after old new end is h =
      let each = links-map serves link before h.went.links h.went.served after is h.went.each in (
        record {
          went = record { links = h.went.links; served = h.went.served; each = each.0; split = h.went.split; gave = h.went.gave };
          few = h.few;
          done = h.done;
          wanted = h.wanted;
          none_wanted = h.none_wanted;
          failed = h.failed;
          steady = h.steady;
        },
        each.1,
      )

-- ---- a desk without its speller

-- a desk that was served while its speller was at its gate
pub desk-with : {S P C D K M X Y L Q R : Type 0} {A : S → Asked Admitted → S → Type 0} {serves : Serving} {most : ℕ} {port : ports.Ghosts P L} {link : links.Ghosts L} {clock : clocks.Ghosts C} {draw : draws.Ghosts D} {keeper : keepers.Ghosts K Kept Q} {kept : keepers.Ghosts M (Served L) R} {before after : S} (old new : Desk P C D K M X) (end : DeskEnd) (was is : Y)
    → DeskServed A serves most port link clock draw keeper kept before old end new after → DeskServed A serves most port link clock draw keeper kept before (with_speller old was) end (with_speller new is) after
desk-with old new end was is h = record {
  went = record {
    links = h.went.links;
    served = h.went.served;
    each = h.went.each;
    split = h.went.split;
    gave = record {
      answers = h.went.gave.answers;
      links = h.went.gave.links;
      timed = h.went.gave.timed;
      drawn = h.went.gave.drawn;
      connections = h.went.gave.connections;
      records = h.went.gave.records;
    };
  };
  few = h.few;
  done = h.done;
  wanted = h.wanted;
  none_wanted = h.none_wanted;
  failed = h.failed;
  steady = h.steady;
}

-- ---- a seat

-- one question more of a desk, after what others asked
noted-own : {T : Type 0} (desk : ℕ) (seen between : List (Note T)) (one : Noted T) → noted_by desk between ≡ [] → noted_by desk ((seen ++ between) ++ (desk, one) ∷ []) ≡ noted_by desk seen ++ one ∷ []
noted-own {T} desk seen between one others =
    of-append desk (seen ++ between) ((desk, one) ∷ [])
    ∙ (λ i. of-append desk seen between i ++ of-own desk one i)
    ∙ ap (λ (l : List (Noted T)). (noted_by desk seen ++ l) ++ one ∷ []) others
    ∙ ap (λ (l : List (Noted T)). l ++ one ∷ []) (append-nil (noted_by desk seen))

-- a question of a seat, and the answer that a gate over it told
abbrev pub AtGate : {S U V T W : Type 0} → programs.Ghosts V T → spellers.Ghosts W T → (BothOf V → Type 0) → (S → U) → (U → ClerkOf T) → (U → W) → (S → Bool) → (S → ℕ) → S → Asked Admitted → S → Type 0
AtGate program spelling begins seat_of clerk_of speller_of journaled_of amount_of before one after =
    JournalAnswers (λ old x new. SeatAnswers program spelling begins (clerk_of old) (speller_of old) x (clerk_of new) (speller_of new)) (journaled_of before) (seat_of before) (amount_of before) one (journaled_of after) (seat_of after) (amount_of after)

-- what a desk asked, as the clerk has seen it
abbrev seen_by : {T W : Type 0} → ℕ → ClerkOf T → W → ℕ → DeskAsked T W
seen_by n clerk speller failed = record { desk = n; noted = noted_by n clerk.seen; speller = speller; failed = failed }

noted-by : {V T : Type 0} (program : programs.Ghosts V T) (n : ℕ) (begins : BothOf V → Type 0) (old : ClerkOf T) (one : Noted T) (new : ClerkOf T) → old.desk ≡ n → AnsweredBy program begins old one new → noted_by n new.seen ≡ noted_by n old.seen ++ one ∷ []
noted-by {T = T} program n begins old one new is a =
    ap (λ (c : ClerkOf T). noted_by n c.seen) a.seen
    ∙ subst (λ (k : ℕ). noted_by k ((old.seen ++ a.between) ++ (old.desk, one) ∷ []) ≡ noted_by k old.seen ++ one ∷ []) is (noted-own old.desk old.seen a.between one a.others)

-- a desk that was served at a gate over a seat asked what the history has of it
pub desk-noted : {S U V T W P C D K M X L Q R : Type 0} {serves : Serving} {most : ℕ} {port : ports.Ghosts P L} {link : links.Ghosts L} {clock : clocks.Ghosts C} {draw : draws.Ghosts D} {keeper : keepers.Ghosts K Kept Q} {kept : keepers.Ghosts M (Served L) R}
    (program : programs.Ghosts V T) (spelling : spellers.Ghosts W T) (begins : BothOf V → Type 0) (seat_of : S → U) (clerk_of : U → ClerkOf T) (speller_of : U → W) (journaled_of : S → Bool) (amount_of : S → ℕ) (journaled : Bool) (all : List (Note T)) (n : ℕ) (serves' : Serving) (most' : ℕ)
    (old new : Desk P C D K M W) (d1 d2 : Desk P C D K M X) (end : DeskEnd) (s1 s2 : S) (c2 : ClerkOf T) (failed : ℕ)
    → serves' ≡ serves → most' ≡ most → d1 ≡ with_speller old d1.speller → clerk_of (seat_of s1) ≡ record { desk = n; seen = [] } → speller_of (seat_of s1) ≡ old.speller → journaled_of s1 ≡ journaled → amount_of s1 ≡ 0
    → DeskServed (AtGate program spelling begins seat_of clerk_of speller_of journaled_of amount_of) serves' most' port link clock draw keeper kept s1 d1 end d2 s2 → c2 ≡ clerk_of (seat_of s2) → failed ≡ amount_of s2 → new ≡ with_speller d2 (speller_of (seat_of s2)) → noted_by c2.desk all ≡ noted_by c2.desk c2.seen
    → DeskServed (Hears spelling journaled) serves most port link clock draw keeper kept (unasked n old.speller) old end new (record { desk = n; noted = noted_by n all; speller = new.speller; failed = failed })
desk-noted {S} {U} {V} {T} {W} {P} {C} {D} {K} {M} {X} {serves = serves} {most} {port} {link} {clock} {draw} {keeper} {kept} program spelling begins seat_of clerk_of speller_of journaled_of amount_of journaled all n serves' most' old new d1 d2 end s1 s2 c2 failed wide many begun fresh spells flag none served back counted same mine =
    let Gate : S → Asked Admitted → S → Type 0 = AtGate program spelling begins seat_of clerk_of speller_of journaled_of amount_of in
    let mapped = desk-map Gate (Hears spelling journaled) (λ s. seen_by n (clerk_of (seat_of s)) (speller_of (seat_of s)) (amount_of s)) (λ s. ((clerk_of (seat_of s)).desk ≡ n) × (journaled_of s ≡ journaled))
    (λ s one t is a. record {
      noted = a.asked.noted;
      first = a.first;
      spelt = a.asked.told;
      told = subst (λ (b : Bool). IsTold b a.first (amount_of s) one (amount_of t)) is.1 a.told;
      desk = refl;
      asked = noted-by program n begins (clerk_of (seat_of s)) a.asked.noted (clerk_of (seat_of t)) is.0 a.asked.asked;
    })
    (λ s one t is a. (ap (λ (c : ClerkOf T). c.desk) a.asked.asked.seen ∙ is.0, a.same ∙ is.1)) s1 s2 (with_speller d1 old.speller) (with_speller d2 (speller_of (seat_of s2))) end (ap (λ (c : ClerkOf T). c.desk) fresh, flag) (desk-with d1 d2 end old.speller (speller_of (seat_of s2)) served) in
    let whole : with_speller d1 old.speller ≡ old = ap (λ (d : Desk P C D K M X). with_speller d old.speller) begun in
    let first : ◌≡◌ {A = DeskAsked T W} (seen_by n (clerk_of (seat_of s1)) (speller_of (seat_of s1)) (amount_of s1)) (unasked n old.speller) = λ k. seen_by n (fresh k) (spells k) (none k) in
    let number : c2.desk ≡ n = ap (λ (c : ClerkOf T). c.desk) back ∙ mapped.1.0 in
    let mine' : noted_by n all ≡ noted_by n (clerk_of (seat_of s2)).seen = subst (λ (k : ℕ). noted_by k all ≡ noted_by k c2.seen) number mine ∙ ap (λ (c : ClerkOf T). noted_by n c.seen) back in
    let spelt : speller_of (seat_of s2) ≡ new.speller = ap (λ (d : Desk P C D K M W). d.speller) (sym same) in
    let last : ◌≡◌ {A = DeskAsked T W} (seen_by n (clerk_of (seat_of s2)) (speller_of (seat_of s2)) (amount_of s2)) (record { desk = n; noted = noted_by n all; speller = new.speller; failed = failed }) = λ k. record { desk = n; noted = sym mine' k; speller = spelt k; failed = sym counted k } in
    subst (λ (x : Desk P C D K M W × Desk P C D K M W × DeskAsked T W × DeskAsked T W × Serving × ℕ). DeskServed (Hears spelling journaled) x.4 x.5 port link clock draw keeper kept x.2 x.0 end x.1 x.3) (λ k. (whole k, sym same k, first k, last k, wide k, many k)) mapped.0
