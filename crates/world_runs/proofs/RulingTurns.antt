-- What a turn makes of a record, by its plan.
use Rattle.std.proofs.Common.{◌≡◌, ◌∙◌, ◌⊎◌, inl, inr, ℕ, ◌<◌, Bool, true, false, refl, ap, sym, subst, arith, List, [], Option, Some, None, Result}
use Rattle.std.proofs.Math.Path.{fun_ext}
use Rattle.accept_book.specs.Booking.{BookOf}
use Rattle.accept_core.specs.declared.answer.AdmitRefusal.{AdmitRefusal}
use Rattle.accept_core.specs.declared.answer.LookRefusal.{LookRefusal}
use Rattle.accept_book.specs.declared.book_answer.Lease.{Lease}
use Rattle.accept_book.specs.declared.book_answer.Negotiated.{Negotiated}
use Rattle.accept_book.specs.declared.book_answer.Admitted.{Admitted}
use Rattle.accept_core.specs.declared.entry.Receipt.{Receipt}
use Rattle.accept_book.specs.RecordShown.{Question, Negotiate, Look, Admit, End, Asked, AskedStep, AskedLook, AskedAdmit, AskedEnd, booked, Ruling, asking}
use Rattle.gss_server.specs.Answers.{Says, may_wait}
use Rattle.gss_server.specs.Asking.{Asking, BookAnswers}
use Rattle.gss_server.specs.declared.answer.Reply.{Reply}
use Rattle.gss_server.specs.declared.answer.Reply.TheVariants as replies
use Rattle.world_laws.specs.declared.event.Happened.{Happened}
use Rattle.world_runs.specs.declared.turn.Turn.{Turn}
use Rattle.posts_program.specs.declared.posts.Posts.{Posts}
use Rattle.world_laws.specs.Apart.{ToldApart}
use Rattle.world_laws.specs.Lanes.{question_of, IsAnswer}
use Rattle.world_runs.specs.Turning.{AsksBy, TurnAnswers, said_by}
use Rattle.world_laws.proofs.RulingPlan.{Decision, Late, Rules, Admits, Ends, Plan, Decides, Steps, Looks, step_by, late_by, look_by, Ruled, plan_by, Planned}

-- ---- what a turn comes to

-- nothing was asked yet
abbrev pub begins : BookOf → Posts → Option (Result Lease LookRefusal) → Turn
begins book posts looked = record { book = book; posts = posts; looked = looked; asked = false; further = false }

-- the ruling with one more answer
abbrev pub ruling_after : Ruled → Option (Result Lease LookRefusal) → Asked Admitted → Ruling
ruling_after f looked (AskedStep id token now draws answer) = f (Some answer) looked None None
ruling_after f looked (AskedLook id now answer) = f None (Some answer) None None
ruling_after f looked (AskedAdmit lease seq service procedure args answer) = f None looked (Some answer) None
ruling_after f looked (AskedEnd lease seq answer) = f None looked None (Some answer)

pub record CameAtOnce (f : Ruled) (book : BookOf) (looked : Option (Result Lease LookRefusal)) (end : Turn) (said : Option Happened) : Type 0 where
  pub answers : IsAnswer (f None looked None None) said
  pub unchanged : end.book ≡ book
  pub nothing : end.further ≡ false

pub record CameAsking (f : Ruled) (book : BookOf) (looked : Option (Result Lease LookRefusal)) (end : Turn) (said : Option Happened) : Type 0 where
  pub asked : Asked Admitted
  pub due : (f None looked None None).due ≡ Some (question_of asked)
  pub answers : BookAnswers book (booked asked) end.book
  pub told : ToldApart asked
  pub answered : IsAnswer (ruling_after f looked asked) said
  pub nothing : end.further ≡ false

pub record CameFurther (f : Ruled) (book : BookOf) (looked : Option (Result Lease LookRefusal)) (end : Turn) (kept : Option (Result Lease LookRefusal)) : Type 0 where
  pub id : ℕ
  pub moment : ℕ
  pub answer : Result Lease LookRefusal
  pub due : (f None looked None None).due ≡ Some (Look id moment)
  pub answers : BookAnswers book (AskedLook id moment answer) end.book
  pub question : Question
  pub next : (f None (Some answer) None None).due ≡ Some question
  pub kept_is : kept ≡ Some answer
  pub more : end.further ≡ true

abbrev pub Came : Ruled → BookOf → Option (Result Lease LookRefusal) → Turn → Option (Result Lease LookRefusal) → Option Happened → Type 0
Came f book looked end kept said = CameAtOnce f book looked end said ⊎ (CameAsking f book looked end said ⊎ CameFurther f book looked end kept)

-- ---- what is said

is-answer : (rule : ℕ) (reply : Reply) (r : Ruling) → Says reply rule r → IsAnswer r (said_by rule reply)
is-answer rule replies.Silent r h = (h.1, h.0, h.2.0)
is-answer rule (replies.Bytes octets) r h = (h.1, h.2.0)
is-answer rule replies.Gone r h = (h.1, h.0, omega (arith, h.2))
is-answer rule replies.NoMemory r h = h.1

-- nothing is said while a question other than an admission is due
unsaid : (rule : ℕ) (reply : Reply) (asked : List (Asked Admitted)) (question : Question) → may_wait (Some question) ≡ false → Says reply rule (record { rule = 0; reply = None; asked = asked; due = Some question }) → ⊥
unsaid rule replies.Silent asked question e h = let bad : 0 < 0 = h.2.0 in omega arith
unsaid rule (replies.Bytes octets) asked question e h = let bad : None ≡ Some octets = h.1 in absurd cc
unsaid rule replies.Gone asked question e h = let bad : 0 ≡ 25 = h.2 in absurd (omega (arith, bad))
unsaid rule replies.NoMemory asked question e h = let bad : may_wait (Some question) ≡ true = h.1 in absurd cc

-- ---- one question

asked-one : (f : Ruled) (book : BookOf) (looked : Option (Result Lease LookRefusal)) (one : Asked Admitted) (middle end : Turn) (said : Option Happened)
    → (f None looked None None).due ≡ Some (question_of one) → IsAnswer (ruling_after f looked one) said → BookAnswers book (booked one) middle.book → ToldApart one → middle.further ≡ false → end ≡ middle
    → CameAsking f book looked end said
asked-one f book looked one middle end said due answered answers told nothing same = record {
  asked = one;
  due = due;
  answers = subst (λ (t : Turn). BookAnswers book (booked one) t.book) (sym same) answers;
  told = told;
  answered = answered;
  nothing = ap (λ (t : Turn). t.further) same ∙ nothing;
}

-- a further question is noted
noted : (one : Asked Admitted) (middle next : Turn) → middle.asked ≡ true → AsksBy middle.asked middle one next → next ≡ record { book = middle.book; posts = middle.posts; looked = middle.looked; asked = true; further = true }
noted one middle next e by = subst (λ (b : Bool). AsksBy b middle one next) e by

asked-further : (f : Ruled) (book : BookOf) (posts : Posts) (id moment : ℕ) (answer : Result Lease LookRefusal) (one : Asked Admitted) (question : Question) (middle next end : Turn)
    → (f None None None None).due ≡ Some (Look id moment) → (f None (Some answer) None None).due ≡ Some question
    → AsksBy false (begins book posts None) (AskedLook id moment answer) middle → AsksBy middle.asked middle one next → end ≡ next
    → CameFurther f book None end (Some answer)
asked-further f book posts id moment answer one question middle next end due further first second same =
    let last : end ≡ record { book = middle.book; posts = middle.posts; looked = middle.looked; asked = true; further = true } = same ∙ noted one middle next (ap (λ (t : Turn). t.asked) first.2) second in
    record {
      id = id;
      moment = moment;
      answer = answer;
      due = due;
      answers = subst (λ (b : BookOf). BookAnswers book (AskedLook id moment answer) b) (sym (ap (λ (t : Turn). t.book) last)) first.0;
      question = question;
      next = further;
      kept_is = refl;
      more = ap (λ (t : Turn). t.further) last;
    }

-- ---- a step

step-came : (id : Option ℕ) (token : List ℕ) (now : ℕ) (draws : List ℕ) (by : Negotiated → Decision) (book : BookOf) (posts : Posts) (looked : Option (Result Lease LookRefusal)) (end : Turn)
    (n : Option Negotiated) (rule : ℕ) (reply : Reply)
    → Says reply rule (step_by id token now draws by n) → Asking TurnAnswers (begins book posts looked) (step_by id token now draws by n).asked end
    → CameAsking (plan_by (Steps id token now draws by)) book looked end (said_by rule reply)
step-came id token now draws by book posts looked end None rule reply says asked = absurd (unsaid rule reply [] (Negotiate id token now draws) refl says)
step-came id token now draws by book posts looked end (Some answer) rule reply says asked =
    asked-one (plan_by (Steps id token now draws by)) book looked (AskedStep id token now draws answer) asked.0 end (said_by rule reply) refl (is-answer rule reply _ says)
    asked.1.0 asked.1.1 (ap (λ (t : Turn). t.further) asked.1.2) asked.2

-- ---- a look that is asked

abbrev Behind : Ruled → ℕ → ℕ → Result Lease LookRefusal → Late → Type 0
Behind f id moment answer late =
    (a : Option (Result Admitted AdmitRefusal)) (e : Option (Result Receipt AdmitRefusal)) → f None (Some answer) a e ≡ asking (AskedLook id moment answer) (late_by late a e)

-- and nothing more
look-only : (f : Ruled) (id moment : ℕ) (answer : Result Lease LookRefusal) (r : Ruling) (book : BookOf) (posts : Posts) (middle end : Turn) (rule : ℕ) (reply : Reply)
    → (f None None None None).due ≡ Some (Look id moment) → f None (Some answer) None None ≡ r → Says reply rule r
    → AsksBy false (begins book posts None) (AskedLook id moment answer) middle → end ≡ middle
    → CameAsking f book None end (said_by rule reply)
look-only f id moment answer r book posts middle end rule reply due is says first same =
    asked-one f book None (AskedLook id moment answer) middle end (said_by rule reply) due (subst (λ (x : Ruling). IsAnswer x (said_by rule reply)) (sym is) (is-answer rule reply r says))
    first.0 first.1 (ap (λ (t : Turn). t.further) first.2) same

look-first : (f : Ruled) (id moment : ℕ) (answer : Result Lease LookRefusal) (late : Late) (book : BookOf) (posts : Posts) (middle end : Turn)
    (a : Option (Result Admitted AdmitRefusal)) (e : Option (Result Receipt AdmitRefusal)) (rule : ℕ) (reply : Reply)
    → (f None None None None).due ≡ Some (Look id moment) → Behind f id moment answer late → Says reply rule (asking (AskedLook id moment answer) (late_by late a e))
    → AsksBy false (begins book posts None) (AskedLook id moment answer) middle → Asking TurnAnswers middle (late_by late a e).asked end
    → CameAsking f book None end (said_by rule reply) ⊎ CameFurther f book None end (Some answer)
look-first f id moment answer (Rules d) book posts middle end a e rule reply due is says first rest =
    inl (look-only f id moment answer _ book posts middle end rule reply due (is None None) says first rest)
look-first f id moment answer (Admits lease seq service procedure args by) book posts middle end None e rule reply due is says first rest =
    inl (look-only f id moment answer _ book posts middle end rule reply due (is None None) says first rest)
look-first f id moment answer (Admits lease seq service procedure args by) book posts middle end (Some x) e rule reply due is says first rest =
    inr (asked-further f book posts id moment answer (AskedAdmit lease seq service procedure args x) (Admit lease seq service procedure args) middle rest.0 end due (ap (λ (r : Ruling). r.due) (is None None)) first rest.1 rest.2)
look-first f id moment answer (Ends lease seq by) book posts middle end a None rule reply due is says first rest =
    absurd (unsaid rule reply _ (End lease seq) refl says)
look-first f id moment answer (Ends lease seq by) book posts middle end a (Some x) rule reply due is says first rest =
    inr (asked-further f book posts id moment answer (AskedEnd lease seq x) (End lease seq) middle rest.0 end due (ap (λ (r : Ruling). r.due) (is None None)) first rest.1 rest.2)

-- ---- a look that was answered before

again-only : (f : Ruled) (answer : Result Lease LookRefusal) (r : Ruling) (book : BookOf) (posts : Posts) (end : Turn) (rule : ℕ) (reply : Reply)
    → f None (Some answer) None None ≡ r → Says reply rule r → end ≡ begins book posts None
    → CameAtOnce f book (Some answer) end (said_by rule reply)
again-only f answer r book posts end rule reply is says same = record {
  answers = subst (λ (x : Ruling). IsAnswer x (said_by rule reply)) (sym is) (is-answer rule reply r says);
  unchanged = ap (λ (t : Turn). t.book) same;
  nothing = ap (λ (t : Turn). t.further) same;
}

again-asked : (f : Ruled) (answer : Result Lease LookRefusal) (one : Asked Admitted) (r : Ruling) (book : BookOf) (posts : Posts) (next end : Turn) (rule : ℕ) (reply : Reply)
    → (f None (Some answer) None None).due ≡ Some (question_of one) → ruling_after f (Some answer) one ≡ r → Says reply rule r
    → AsksBy false (begins book posts None) one next → end ≡ next
    → CameAsking f book (Some answer) end (said_by rule reply)
again-asked f answer one r book posts next end rule reply due is says by same =
    asked-one f book (Some answer) one next end (said_by rule reply) due (subst (λ (x : Ruling). IsAnswer x (said_by rule reply)) (sym is) (is-answer rule reply r says))
    by.0 by.1 (ap (λ (t : Turn). t.further) by.2) same

look-again : (f : Ruled) (id moment : ℕ) (answer : Result Lease LookRefusal) (late : Late) (book : BookOf) (posts : Posts) (end : Turn)
    (a : Option (Result Admitted AdmitRefusal)) (e : Option (Result Receipt AdmitRefusal)) (rule : ℕ) (reply : Reply)
    → Behind f id moment answer late → Says reply rule (asking (AskedLook id moment answer) (late_by late a e))
    → Asking TurnAnswers (begins book posts None) (late_by late a e).asked end
    → CameAtOnce f book (Some answer) end (said_by rule reply) ⊎ CameAsking f book (Some answer) end (said_by rule reply)
look-again f id moment answer (Rules d) book posts end a e rule reply is says rest = inl (again-only f answer _ book posts end rule reply (is None None) says rest)
look-again f id moment answer (Admits lease seq service procedure args by) book posts end None e rule reply is says rest = inl (again-only f answer _ book posts end rule reply (is None None) says rest)
look-again f id moment answer (Admits lease seq service procedure args by) book posts end (Some x) e rule reply is says rest =
    inr (again-asked f answer (AskedAdmit lease seq service procedure args x) _ book posts rest.0 end rule reply (ap (λ (r : Ruling). r.due) (is None None)) (is (Some x) None) says rest.1 rest.2)
look-again f id moment answer (Ends lease seq by) book posts end a None rule reply is says rest = absurd (unsaid rule reply _ (End lease seq) refl says)
look-again f id moment answer (Ends lease seq by) book posts end a (Some x) rule reply is says rest =
    inr (again-asked f answer (AskedEnd lease seq x) _ book posts rest.0 end rule reply (ap (λ (r : Ruling). r.due) (is None None)) (is None (Some x)) says rest.1 rest.2)

-- ---- all plans

first-case : {f : Ruled} {book : BookOf} {looked : Option (Result Lease LookRefusal)} {end : Turn} {kept : Option (Result Lease LookRefusal)} {said : Option Happened}
    → CameAtOnce f book looked end said ⊎ CameAsking f book looked end said → Came f book looked end kept said
first-case (inl c) = inl c
first-case (inr c) = inr (inl c)

look-came : (id moment : ℕ) (by : Result Lease LookRefusal → Late) (book : BookOf) (posts : Posts) (looked : Option (Result Lease LookRefusal)) (end : Turn)
    (l : Option (Result Lease LookRefusal)) (a : Option (Result Admitted AdmitRefusal)) (e : Option (Result Receipt AdmitRefusal)) (rule : ℕ) (reply : Reply)
    → Says reply rule (look_by id moment by l a e) → Asking TurnAnswers (begins book posts looked) (look_by id moment by l a e).asked end
    → Came (plan_by (Looks id moment by)) book looked end l (said_by rule reply)
look-came id moment by book posts looked end None a e rule reply says asked = absurd (unsaid rule reply [] (Look id moment) refl says)
look-came id moment by book posts None end (Some answer) a e rule reply says asked =
    inr (look-first (plan_by (Looks id moment by)) id moment answer (by answer) book posts asked.0 end a e rule reply refl (λ a' e'. refl) says asked.1 asked.2)
look-came id moment by book posts (Some given) end (Some answer) a e rule reply says asked =
    first-case (subst (λ (g : Result Lease LookRefusal). CameAtOnce (plan_by (Looks id moment by)) book (Some g) end (said_by rule reply) ⊎ CameAsking (plan_by (Looks id moment by)) book (Some g) end (said_by rule reply)) asked.1.0
    (look-again (plan_by (Looks id moment by)) id moment answer (by answer) book posts end a e rule reply (λ a' e'. refl) says
    (subst (λ (t : Turn). Asking TurnAnswers t (late_by (by answer) a e).asked end) asked.1.1 asked.2)))

plan-came : (plan : Plan) (book : BookOf) (posts : Posts) (looked : Option (Result Lease LookRefusal)) (end : Turn)
    (n : Option Negotiated) (l : Option (Result Lease LookRefusal)) (a : Option (Result Admitted AdmitRefusal)) (e : Option (Result Receipt AdmitRefusal)) (rule : ℕ) (reply : Reply)
    → Says reply rule (plan_by plan n l a e) → Asking TurnAnswers (begins book posts looked) (plan_by plan n l a e).asked end
    → Came (plan_by plan) book looked end l (said_by rule reply)
plan-came (Decides d) book posts looked end n l a e rule reply says asked =
    inl (record { answers = is-answer rule reply _ says; unchanged = ap (λ (t : Turn). t.book) asked; nothing = ap (λ (t : Turn). t.further) asked })
plan-came (Steps id token now draws by) book posts looked end n l a e rule reply says asked = inr (inl (step-came id token now draws by book posts looked end n rule reply says asked))
plan-came (Looks id now by) book posts looked end n l a e rule reply says asked = look-came id now by book posts looked end l a e rule reply says asked

pub came : (f : Ruled) → Planned f → (book : BookOf) (posts : Posts) (looked : Option (Result Lease LookRefusal)) (end : Turn)
    (n : Option Negotiated) (l : Option (Result Lease LookRefusal)) (a : Option (Result Admitted AdmitRefusal)) (e : Option (Result Receipt AdmitRefusal)) (rule : ℕ) (reply : Reply)
    → Says reply rule (f n l a e) → Asking TurnAnswers (begins book posts looked) (f n l a e).asked end
    → Came f book looked end l (said_by rule reply)
came f p book posts looked end n l a e rule reply says asked =
    let same : plan_by p.plan ≡ f = fun_ext (λ n'. fun_ext (λ l'. fun_ext (λ a'. fun_ext (λ e'. sym (p.is n' l' a' e'))))) in
    subst (λ (g : Ruled). Came g book looked end l (said_by rule reply)) same
    (plan-came p.plan book posts looked end n l a e rule reply (subst (λ (r : Ruling). Says reply rule r) (p.is n l a e) says)
    (subst (λ (r : Ruling). Asking TurnAnswers (begins book posts looked) r.asked end) (p.is n l a e) asked))
