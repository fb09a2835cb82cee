-- What a turn leaves of a lane.
use Rattle.std.proofs.Common.{◌≡◌, ◌∙◌, inl, inr, ℕ, true, false, refl, ap, sym, subst, List, max, Option, Some, None, Result, true≢false}
use Rattle.accept_book.specs.Booking.{BookOf}
use Rattle.accept_core.specs.declared.answer.LookRefusal.{LookRefusal}
use Rattle.accept_book.specs.declared.book_answer.Admitted.{Admitted}
use Rattle.accept_book.specs.declared.book_answer.Lease.{Lease}
use Rattle.accept_book.specs.RecordShown.{KeptAnswers, Asked, AskedStep, AskedLook, AskedAdmit, AskedEnd, Ruling}
use Rattle.accept_book.specs.RecordRule.{record_ruling}
use Rattle.gss_server.specs.Answers.{Says}
use Rattle.gss_server.specs.Asking.{Asking}
use Rattle.gss_server.specs.declared.answer.Reply.{Reply}
use Rattle.world_laws.specs.declared.event.Happened.{Happened}
use Rattle.world_laws.specs.declared.event.Happened.TheVariants.{Stepped}
use Rattle.world_runs.specs.declared.turn.Turn.{Turn}
use Rattle.rpc_program.specs.Programs.{Serving}
use Rattle.posts_program.specs.declared.posts.Posts.{Posts}
use Rattle.world_laws.specs.Deeds.{Deed, quiet}
use Rattle.world_laws.specs.State.{InHand, World}
use Rattle.world_laws.specs.Lanes.{ruling_of, hand_after, IsAnswer, if_answered, makes_by, found_by, opened_by, fixes_by, with_lane, LaneMoves}
use Rattle.world_runs.specs.Turning.{TurnAnswers, said_by, Turned}
use Rattle.accept_core.proofs.Nexts.{next-of}
use Rattle.world_laws.proofs.RulingPlan.{rulings, record-planned}
use Rattle.world_runs.proofs.RulingTurns.{begins, ruling_after, Came, came}

-- a record in hand of which at most a look was answered
abbrev pub hand_with : List ℕ → ℕ → List ℕ → Option (Result Lease LookRefusal) → InHand
hand_with octets now draws looked = record { octets = octets; kept = record { now = now; draws = draws; negotiated = None; looked = looked; admitted = None; ended = None } }

after-is : (serves : Serving) (octets : List ℕ) (now : ℕ) (draws : List ℕ) (looked : Option (Result Lease LookRefusal)) (asked : Asked Admitted)
    → ruling_after (rulings octets now draws serves) looked asked ≡ ruling_of serves (hand_after (hand_with octets now draws looked) asked)
after-is serves octets now draws looked (AskedStep id token moment drawn answer) = refl
after-is serves octets now draws looked (AskedLook id moment answer) = refl
after-is serves octets now draws looked (AskedAdmit lease seq service procedure args answer) = refl
after-is serves octets now draws looked (AskedEnd lease seq answer) = refl

-- what the answer to a record says of its turn
pub answered-came : (serves : Serving) (book : BookOf) (posts : Posts) (octets heard : List ℕ) (now : ℕ) (draws : List ℕ) (looked : Option (Result Lease LookRefusal)) (end : Turn) (kept : KeptAnswers) (rule : ℕ) (reply : Reply)
    → heard ≡ octets → kept.now ≡ now → kept.draws ≡ draws
    → Says reply rule (record_ruling heard kept serves) → Asking TurnAnswers (begins book posts looked) (record_ruling heard kept serves).asked end
    → Came (rulings octets now draws serves) book looked end kept.looked (said_by rule reply)
answered-came serves book posts octets heard now draws looked end kept rule reply read at drawn says asked =
    let same : record_ruling heard kept serves ≡ rulings octets now draws serves kept.negotiated kept.looked kept.admitted kept.ended =
    λ i. record_ruling (read i) (record { now = at i; draws = drawn i; negotiated = kept.negotiated; looked = kept.looked; admitted = kept.admitted; ended = kept.ended }) serves in
    came (rulings octets now draws serves) (record-planned octets now draws serves) book posts looked end kept.negotiated kept.looked kept.admitted kept.ended rule reply
    (subst (λ (r : Ruling). Says reply rule r) same says) (subst (λ (r : Ruling). Asking TurnAnswers (begins book posts looked) r.asked end) same asked)

-- no further question is due: the lane has no record then
pub turned-over : (serves : Serving) (book : BookOf) (octets : List ℕ) (now : ℕ) (draws : List ℕ) (looked : Option (Result Lease LookRefusal)) (end : Turn) (kept : Option (Result Lease LookRefusal)) (said : Option Happened)
    → end.further ≡ false → Came (rulings octets now draws serves) book looked end kept said
    → Turned serves book (hand_with octets now draws looked) end.book None said
turned-over serves book octets now draws looked end kept said over (inl c) = inl (record { answers = c.answers; unchanged = c.unchanged; nothing = refl })
turned-over serves book octets now draws looked end kept said over (inr (inl c)) =
    let past = next-of book.core.table (max book.core.cache.greatest now) in
    inr (record {
      asked = c.asked;
      due = c.due;
      past = past.0;
      is_past = past.1;
      answers = c.answers;
      told = c.told;
      follows = inr (subst (λ (r : Ruling). IsAnswer r said) (after-is serves octets now draws looked c.asked) c.answered, refl);
    })
turned-over serves book octets now draws looked end kept said over (inr (inr c)) = absurd (true≢false (sym c.more ∙ over))

-- a further question is due: the record stays in hand, with what the look was answered
pub turned-further : (serves : Serving) (book : BookOf) (octets : List ℕ) (now : ℕ) (draws : List ℕ) (looked : Option (Result Lease LookRefusal)) (end : Turn) (kept : Option (Result Lease LookRefusal)) (said : Option Happened)
    → end.further ≡ true → Came (rulings octets now draws serves) book looked end kept said
    → Turned serves book (hand_with octets now draws looked) end.book (Some (hand_with octets now draws kept)) (Some (Stepped 0))
turned-further serves book octets now draws looked end kept said more (inl c) = absurd (true≢false (sym more ∙ c.nothing))
turned-further serves book octets now draws looked end kept said more (inr (inl c)) = absurd (true≢false (sym more ∙ c.nothing))
turned-further serves book octets now draws looked end kept said more (inr (inr c)) =
    let past = next-of book.core.table (max book.core.cache.greatest now) in
    inr (record {
      asked = AskedLook c.id c.moment c.answer;
      due = c.due;
      past = past.0;
      is_past = past.1;
      answers = c.answers;
      told = tt;
      follows = inl (c.question, c.next, refl, ap (λ (l : Option (Result Lease LookRefusal)). Some (hand_with octets now draws l)) c.kept_is);
    })

-- so the lane moves
abbrev pub lane-moved : (w : World) (lane : ℕ) (hand : InHand) (book : BookOf) (left : Option InHand) (answer : Option Happened) → Turned w.serves w.book hand book left answer
    → (deed : Deed) × (deed.answer ≡ answer) × LaneMoves w lane hand deed (with_lane w lane left book deed)
lane-moved w lane hand book left answer (inl t) =
    (quiet answer, refl, inl (record { answer = t.answers; deed_is = refl; new_is = λ i. with_lane w lane (t.nothing i) (t.unchanged i) (quiet answer) }))
lane-moved w lane hand book left answer (inr t) = (
  record {
    answer = answer;
    makes = if_answered answer (makes_by w.book t.past hand t.asked);
    found = found_by w.book t.past hand t.asked;
    opened = opened_by w.book t.asked;
    fixes = fixes_by w.book t.past t.asked;
  },
  refl,
  inr (record {
    asked = t.asked;
    due = t.due;
    past = t.past;
    is_past = t.is_past;
    answers = t.answers;
    told = t.told;
    left = left;
    follows = t.follows;
    makes = refl;
    found = refl;
    opened = refl;
    fixes = refl;
    new_is = refl;
  }),
)
