-- A call that goes on: it was sent once for each wait, and once before.
use Rattle.std.proofs.Common.{◌≡◌, ℕ, suc, ◌+◌, ◌-◌, ◌<◌, ◌≤◌, IsTrue, List, [], ◌∷◌, ◌++◌, length, take, Option, None, Some, Ok, Err, flat_map, ap, sym, ◌∙◌, arith, refl, subst, append_assoc, append-nil, ap₂}
use Rattle.std.specs.Prelude.{IsErrOf}
use Rattle.std.specs.List.{AllByRecursion}
use Rattle.std.proofs.lemmas.List.{length_push}
use Rattle.sec_base.specs.Answers.{Rose}
use Rattle.sec_base.specs.declared.draw.Draw as draws
use Rattle.datagram_post.specs.declared.post.Post as posts
use Rattle.gss_client.specs.declared.again.Judged.{Judged}
use Rattle.gss_client.specs.declared.again.Judged.TheVariants as judges
use Rattle.gss_client.specs.Again.{later, Verdict, passes, Judges}
use Rattle.gss_client.specs.Calling.{data_call}
use Rattle.gss_client.specs.Session.{SessionState}
use Rattle.datagram_client.specs.declared.refusal.PostRefusal.{PostRefusal}
use Rattle.datagram_client.specs.declared.refusal.PostRefusal.TheVariants as refusals
use Rattle.datagram_client.specs.Hearing.{judged_datagram, HeardOnce}
use Rattle.datagram_client.specs.Calls.{sends, count_none, count_some, Passed, Drew, SentOnce, Course, Decides, Ends, Breaks, Called, SentBy, IsSpent}

-- what was heard and sent so far, over a post that tells
pub record Running {P D : Type 0} (post : posts.Ghosts P) (draw : draws.Ghosts D) (s : SessionState) (procedure : ℕ) (args : List ℕ) (tries : ℕ) (old new : P) (draw_old draw_new : D) (nones passed : ℕ) : Type 0 where
  pub front : List (Option (List ℕ))
  pub confounders : List (List ℕ)
  pub course : Course post draw s procedure args old new draw_old draw_new front confounders []
  pub waits : count_none front ≡ nones
  pub some : count_some front ≡ passed
  pub due : nones < tries → length confounders ≡ nones + 1
  pub done : nones ≡ tries → length confounders ≡ tries

pub record Loop {P D : Type 0} (post : posts.Ghosts P) (draw : draws.Ghosts D) (s : SessionState) (procedure : ℕ) (args : List ℕ) (tries : ℕ) (old new : P) (draw_old draw_new : D) (nones passed : ℕ) (s' : SessionState) (first : ℕ) : Type 0 where
  pub told : IsTrue (post.tells old) → Running post draw s procedure args tries old new draw_old draw_new nones passed
  pub tells : post.tells new ≡ post.tells old
  pub few : nones ≤ tries
  pub bounded : passed ≤ 1024
  pub session : nones < tries → s' ≡ later nones s
  pub number : s'.number ≤ 0x7fffffff
  pub from : first ≡ s.number
  pub faults : post.faults old ≤ post.faults new

pub rose-later : (a b c : ℕ) → a ≤ b → Rose b c → Rose a c
rose-later a b c le rose = λ h. omega (arith, le, rose h)

-- the refusal is the same, whatever else might have come
pub same-refusal : {A B E : Type 0} → (refusal other : E) → IsErrOf {T = A} {E = E} (Err refusal) other → IsErrOf {T = B} {E = E} (Err refusal) other
same-refusal {A} {B} {E} refusal other e = let f : refusal ≡ other = cc in ap Err f

later-zero : (s : SessionState) → later 0 s ≡ s
later-zero s = let e : s.number + 0 ≡ s.number = omega arith in λ i. record { outcome = s.outcome; terms = s.terms; handle = s.handle; number = e i; xid = s.xid }

pub later-more : (n : ℕ) (s : SessionState) → later 1 (later n s) ≡ later (n + 1) s
later-more n s = let e : s.number + n + 1 ≡ s.number + (n + 1) = omega arith in λ i. record { outcome = s.outcome; terms = s.terms; handle = s.handle; number = e i; xid = s.xid }

-- ---- one more

none-more : (front : List (Option (List ℕ))) → count_none (front ++ None ∷ []) ≡ count_none front + 1
none-more [] = refl
none-more (None ∷ front) = ap (λ (n : ℕ). n + 1) (none-more front)
none-more (Some d ∷ front) = none-more front

none-same : (d : List ℕ) (front : List (Option (List ℕ))) → count_none (front ++ Some d ∷ []) ≡ count_none front
none-same d [] = refl
none-same d (None ∷ front) = ap (λ (n : ℕ). n + 1) (none-same d front)
none-same d (Some e ∷ front) = none-same d front

some-same : (front : List (Option (List ℕ))) → count_some (front ++ None ∷ []) ≡ count_some front
some-same [] = refl
some-same (None ∷ front) = some-same front
some-same (Some d ∷ front) = ap (λ (n : ℕ). n + 1) (some-same front)

some-more : (d : List ℕ) (front : List (Option (List ℕ))) → count_some (front ++ Some d ∷ []) ≡ count_some front + 1
some-more d [] = refl
some-more d (None ∷ front) = some-more d front
some-more d (Some e ∷ front) = ap (λ (n : ℕ). n + 1) (some-more d front)

passed-none : (s : SessionState) (n : ℕ) (front : List (Option (List ℕ))) → Passed s n front → Passed s n (front ++ None ∷ [])
passed-none s n [] p = tt
passed-none s n (None ∷ front) p = passed-none s (n + 1) front p
passed-none s n (Some d ∷ front) p = (p.0, passed-none s n front p.1)

passed-some : (s : SessionState) (n : ℕ) (d : List ℕ) (front : List (Option (List ℕ))) → Passed s n front → judged_datagram (later (n + count_none front) s) s.number d ≡ passes → Passed s n (front ++ Some d ∷ [])
passed-some s n d [] p is = let e : n + 0 ≡ n = omega arith in (subst (λ (k : ℕ). judged_datagram (later k s) s.number d ≡ passes) e is, tt)
passed-some s n d (None ∷ front) p is =
    let e : n + (count_none front + 1) ≡ n + 1 + count_none front = omega arith in
    passed-some s (n + 1) d front p (subst (λ (k : ℕ). judged_datagram (later k s) s.number d ≡ passes) e is)
passed-some s n d (Some x ∷ front) p is = (p.0, passed-some s n d front p.1 is)

sends-more : (s : SessionState) (procedure : ℕ) (args : List ℕ) (n : ℕ) (cs : List (List ℕ)) (c : List ℕ) → sends s procedure args n (cs ++ c ∷ []) ≡ sends s procedure args n cs ++ data_call (later (n + length cs) s) procedure args c ∷ []
sends-more s procedure args n [] c = let e : n + 0 ≡ n = omega arith in ap (λ (k : ℕ). data_call (later k s) procedure args c ∷ []) (sym e)
sends-more s procedure args n (x ∷ cs) c =
    let e : n + 1 + length cs ≡ n + suc (length cs) = omega arith in
    ap (λ (l : List (List ℕ)). data_call (later n s) procedure args x ∷ l) (sends-more s procedure args (n + 1) cs c ∙ ap (λ (k : ℕ). sends s procedure args (n + 1) cs ++ data_call (later k s) procedure args c ∷ []) e)

each-more : (cs : List (List ℕ)) (c : List ℕ) → AllByRecursion (λ (one : List ℕ). length one ≡ 16) cs → length c ≡ 16 → AllByRecursion (λ (one : List ℕ). length one ≡ 16) (cs ++ c ∷ [])
each-more [] c all is = (is, tt)
each-more (x ∷ cs) c all is = (all.0, each-more cs c all.1 is)

flat-more : (cs : List (List ℕ)) (c : List ℕ) → flat_map (λ (one : List ℕ). one) (cs ++ c ∷ []) ≡ flat_map (λ (one : List ℕ). one) cs ++ c
flat-more [] c = append-nil c
flat-more (x ∷ cs) c = ap (λ (l : List ℕ). x ++ l) (flat-more cs c) ∙ sym (append_assoc x (flat_map (λ (one : List ℕ). one) cs) c)

drew-more : {D : Type 0} (draw : draws.Ghosts D) (a b c : D) (cs : List (List ℕ)) (one : List ℕ) → Drew draw a b cs → Drew draw b c (one ∷ []) → Drew draw a c (cs ++ one ∷ [])
drew-more draw a b c cs one d e = record {
  each = each-more cs one d.each e.each.0;
  kept = λ t. d.kept (e.kept t);
  given = λ t. e.given t ∙ (ap (λ (l : List ℕ). l ++ (one ++ [])) (d.given (e.kept t))
      ∙ (ap (λ (l : List ℕ). (draw.given a ++ flat_map (λ (x : List ℕ). x) cs) ++ l) (append-nil one)
      ∙ (append_assoc (draw.given a) (flat_map (λ (x : List ℕ). x) cs) one ∙ ap (λ (l : List ℕ). draw.given a ++ l) (sym (flat-more cs one)))));
}

longer : {A : Type 0} (xs : List A) (x : A) → length (xs ++ x ∷ []) ≡ length xs + 1
longer xs x = length_push xs x

take-sends : (s : SessionState) (procedure : ℕ) (args : List ℕ) (n : ℕ) (cs more : List (List ℕ)) → take (length cs) (sends s procedure args n (cs ++ more)) ≡ sends s procedure args n cs
take-sends s procedure args n [] more = refl
take-sends s procedure args n (c ∷ cs) more = ap (λ (l : List (List ℕ)). data_call (later n s) procedure args c ∷ l) (take-sends s procedure args (n + 1) cs more)

sent-all : (s : SessionState) (procedure : ℕ) (args : List ℕ) (cs : List (List ℕ)) → take (length cs) (sends s procedure args 0 cs) ≡ sends s procedure args 0 cs
sent-all s procedure args cs = ap (λ (l : List (List ℕ)). take (length cs) (sends s procedure args 0 l)) (sym (append-nil cs)) ∙ take-sends s procedure args 0 cs []

module _ {P D : Type 0} (post : posts.Ghosts P) (draw : draws.Ghosts D) (s : SessionState) (procedure : ℕ) (args : List ℕ) (tries : ℕ) where
  pub began : (old new : P) (draw_old draw_new : D) (first : ℕ) → 0 < tries → s.number ≤ 0x7fffffff → first ≡ s.number → post.faults old ≤ post.faults new
      → SentOnce post draw s procedure args old new draw_old draw_new (Ok tt) → Loop post draw s procedure args tries old new draw_old draw_new 0 0 s first
  began old new draw_old draw_new first some small from faults once = record {
    told = λ t. record {
      front = [];
      confounders = once.confounder ∷ [];
      course = record {
        drew = once.drew;
        passed = tt;
        heard = once.heard t ∙ sym (append-nil (post.heard old));
        sent = once.sent t ∙ ap (λ (x : SessionState). post.sent old ++ data_call x procedure args once.confounder ∷ []) (sym (later-zero s));
      };
      waits = refl;
      some = refl;
      due = λ lt. refl;
      done = λ e. omega (arith, e, some);
    };
    tells = once.tells;
    few = omega arith;
    bounded = omega arith;
    session = λ lt. sym (later-zero s);
    number = small;
    from = from;
    faults = faults;
  }

  -- a wait in which nothing came
  waited : (old mid : P) (draw_old draw_mid : D) (nones passed : ℕ) (new : P) (s' : SessionState) (first : ℕ) → Running post draw s procedure args tries old mid draw_old draw_mid nones passed → nones < tries
      → post.tells mid ≡ post.tells old → IsTrue (post.tells old) → HeardOnce post s' first mid new (Ok None) → (front : List (Option (List ℕ))) × (cs : List (List ℕ)) × Course post draw s procedure args old new draw_old draw_mid front cs [] × (count_none front ≡ nones + 1) × (count_some front ≡ passed) × (length cs ≡ nones + 1)
  waited old mid draw_old draw_mid nones passed new s' first r lt tells t once =
      let t' : IsTrue (post.tells mid) = subst (λ b. IsTrue b) (sym tells) t in (
        r.front ++ None ∷ [],
        r.confounders,
        record {
          drew = r.course.drew;
          passed = passed-none s 0 r.front r.course.passed;
          heard = once.heard t' ∙ (ap (λ l. l ++ None ∷ []) r.course.heard ∙ (append_assoc (post.heard old) (r.front ++ []) (None ∷ [])
              ∙ (ap (λ l. post.heard old ++ (l ++ None ∷ [])) (append-nil r.front) ∙ ap (λ l. post.heard old ++ l) (sym (append-nil (r.front ++ None ∷ []))))));
          sent = once.sent t' ∙ r.course.sent;
        },
        none-more r.front ∙ ap (λ (n : ℕ). n + 1) r.waits,
        some-same r.front ∙ r.some,
        r.due lt,
      )

  -- nothing came, and the call was sent again
  pub sent-again : (old mid : P) (draw_old draw_mid : D) (nones passed : ℕ) (heard new : P) (draw_new : D) (s' : SessionState) (first : ℕ) → Loop post draw s procedure args tries old mid draw_old draw_mid nones passed s' first
      → nones + 1 < tries → s'.number < 0x7fffffff → HeardOnce post s' first mid heard (Ok None) → post.faults mid ≤ post.faults heard → (s'' : SessionState) → s'' ≡ later 1 s' → SentOnce post draw s'' procedure args heard new draw_mid draw_new (Ok tt) → post.faults heard ≤ post.faults new
      → Loop post draw s procedure args tries old new draw_old draw_new (nones + 1) passed s'' first
  sent-again old mid draw_old draw_mid nones passed heard new draw_new s' first l lt small once fh s'' is sent fs =
      let at : s'' ≡ later (nones + 1) s = is ∙ (ap (later 1) (l.session (omega (arith, lt))) ∙ later-more nones s) in record {
        told = λ t.
            let w = waited old mid draw_old draw_mid nones passed heard s' first (l.told t) (omega (arith, lt)) l.tells t once in
            let t' : IsTrue (post.tells heard) = subst (λ b. IsTrue b) (sym (once.tells ∙ l.tells)) t in
            record {
              front = w.0;
              confounders = w.1 ++ sent.confounder ∷ [];
              course = record {
                drew = drew-more draw draw_old draw_mid draw_new w.1 sent.confounder w.2.drew sent.drew;
                passed = w.2.passed;
                heard = sent.heard t' ∙ w.2.heard;
                sent = sent.sent t' ∙ (ap (λ l. l ++ data_call s'' procedure args sent.confounder ∷ []) w.2.sent
                    ∙ (append_assoc (post.sent old) (sends s procedure args 0 w.1) (data_call s'' procedure args sent.confounder ∷ [])
                    ∙ ap (λ l. post.sent old ++ l) (ap (λ (x : SessionState). sends s procedure args 0 w.1 ++ data_call x procedure args sent.confounder ∷ []) (at ∙ ap (λ (n : ℕ). later n s) (sym w.5 ∙ (omega arith)))
                    ∙ sym (sends-more s procedure args 0 w.1 sent.confounder))));
              };
              waits = w.3;
              some = w.4;
              due = λ less. longer w.1 sent.confounder ∙ ap (λ (n : ℕ). n + 1) w.5;
              done = λ e. absurd (omega (arith, e, lt));
            };
        tells = sent.tells ∙ (once.tells ∙ l.tells);
        few = omega (arith, lt);
        bounded = l.bounded;
        session = λ less. at;
        number = omega (arith, small, ap (λ (x : SessionState). x.number) is);
        from = l.from;
        faults = omega (arith, l.faults, fh, fs);
      }

  -- nothing came the last time
  pub last-wait : (old mid : P) (draw_old draw_mid : D) (nones passed : ℕ) (new : P) (s' : SessionState) (first : ℕ) → Loop post draw s procedure args tries old mid draw_old draw_mid nones passed s' first
      → nones < tries → tries ≤ nones + 1 → HeardOnce post s' first mid new (Ok None) → post.faults mid ≤ post.faults new
      → Loop post draw s procedure args tries old new draw_old draw_mid (nones + 1) passed s' first
  last-wait old mid draw_old draw_mid nones passed new s' first l lt ge once fh = record {
    told = λ t.
        let w = waited old mid draw_old draw_mid nones passed new s' first (l.told t) lt l.tells t once in
        record {
          front = w.0;
          confounders = w.1;
          course = w.2;
          waits = w.3;
          some = w.4;
          due = λ less. absurd (omega (arith, less, ge));
          done = λ e. w.5 ∙ e;
        };
    tells = once.tells ∙ l.tells;
    few = omega (arith, lt);
    bounded = l.bounded;
    session = λ less. absurd (omega (arith, less, ge));
    number = l.number;
    from = l.from;
    faults = omega (arith, l.faults, fh);
  }

  -- a datagram was passed over
  pub passed-over : (old mid : P) (draw_old draw_mid : D) (nones passed : ℕ) (new : P) (s' : SessionState) (first : ℕ) (j : Judged) → Loop post draw s procedure args tries old mid draw_old draw_mid nones passed s' first
      → nones < tries → passed < 1024 → HeardOnce post s' first mid new (Ok (Some j)) → j ≡ judges.Passes → post.faults mid ≤ post.faults new
      → Loop post draw s procedure args tries old new draw_old draw_mid nones (passed + 1) s' first
  passed-over old mid draw_old draw_mid nones passed new s' first j l lt few once is fh = record {
    told = λ t.
        let r = l.told t in
        let t' : IsTrue (post.tells mid) = subst (λ b. IsTrue b) (sym l.tells) t in
        let h = once.heard t' in
        let v : judged_datagram s' first h.0 ≡ passes = subst (λ (x : Judged). Judges x (judged_datagram s' first h.0)) is h.1 in
        let at : s' ≡ later (count_none r.front) s = l.session lt ∙ ap (λ (n : ℕ). later n s) (sym r.waits) in
        let v' : judged_datagram (later (0 + count_none r.front) s) s.number h.0 ≡ passes = ap₂ (λ (x : SessionState) (f : ℕ). judged_datagram x f h.0) (ap (λ (n : ℕ). later n s) (omega arith) ∙ sym at) (sym l.from) ∙ v in
        record {
          front = r.front ++ Some h.0 ∷ [];
          confounders = r.confounders;
          course = record {
            drew = r.course.drew;
            passed = passed-some s 0 h.0 r.front r.course.passed v';
            heard = h.2 ∙ (ap (λ l. l ++ Some h.0 ∷ []) r.course.heard ∙ (append_assoc (post.heard old) (r.front ++ []) (Some h.0 ∷ [])
                ∙ (ap (λ l. post.heard old ++ (l ++ Some h.0 ∷ [])) (append-nil r.front) ∙ ap (λ l. post.heard old ++ l) (sym (append-nil (r.front ++ Some h.0 ∷ []))))));
            sent = once.sent t' ∙ r.course.sent;
          };
          waits = none-same h.0 r.front ∙ r.waits;
          some = some-more h.0 r.front ∙ ap (λ (n : ℕ). n + 1) r.some;
          due = r.due;
          done = r.done;
        };
    tells = once.tells ∙ l.tells;
    few = l.few;
    bounded = omega (arith, few);
    session = l.session;
    number = l.number;
    from = l.from;
    faults = omega (arith, l.faults, fh);
  }

  -- a datagram decided
  pub decides : (old mid : P) (draw_old draw_mid : D) (nones passed : ℕ) (new : P) (s' : SessionState) (first : ℕ) (j : Judged) (verdict : Verdict) → Loop post draw s procedure args tries old mid draw_old draw_mid nones passed s' first
      → nones < tries → passed < 1024 → HeardOnce post s' first mid new (Ok (Some j)) → ((v : Verdict) → Judges j v → v ≡ verdict) → IsTrue (post.tells old)
      → (d : Decides post draw s procedure args tries old new draw_old draw_mid verdict) × (s' ≡ later (count_none d.front) s)
  decides old mid draw_old draw_mid nones passed new s' first j verdict l lt few once is t =
      let r = l.told t in
      let t' : IsTrue (post.tells mid) = subst (λ b. IsTrue b) (sym l.tells) t in
      let h = once.heard t' in
      let at : s' ≡ later (count_none r.front) s = l.session lt ∙ ap (λ (n : ℕ). later n s) (sym r.waits) in (
        record {
          front = r.front;
          octets = h.0;
          confounders = r.confounders;
          course = record {
            drew = r.course.drew;
            passed = r.course.passed;
            heard = h.2 ∙ (ap (λ l. l ++ Some h.0 ∷ []) r.course.heard ∙ (append_assoc (post.heard old) (r.front ++ []) (Some h.0 ∷ []) ∙ ap (λ l. post.heard old ++ (l ++ Some h.0 ∷ [])) (append-nil r.front)));
            sent = once.sent t' ∙ r.course.sent;
          };
          waits = omega (arith, r.waits, lt);
          few = omega (arith, r.some, few);
          count = r.due lt ∙ ap (λ (n : ℕ). n + 1) (sym r.waits);
          is = ap₂ (λ (x : SessionState) (f : ℕ). judged_datagram x f h.0) (sym at) (sym l.from) ∙ is (judged_datagram s' first h.0) h.1;
        },
        at,
      )

  -- no number is left
  pub spent-first : (old : P) (draw_old : D) → 0 < tries → s.number ≡ 0x80000000 → Ends post draw s procedure args old old draw_old draw_old (IsSpent s tries)
  spent-first old draw_old some e = record {
    heard = [];
    confounders = [];
    course = record {
      drew = record { each = tt; kept = λ t. t; given = λ t. sym (append-nil (draw.given draw_old)) };
      passed = tt;
      heard = sym (append-nil (post.heard old));
      sent = sym (append-nil (post.sent old));
    };
    holds = (some, refl, omega (arith, e));
  }

  pub spent-later : (old mid : P) (draw_old draw_mid : D) (nones passed : ℕ) (new : P) (s' : SessionState) (first : ℕ) → Loop post draw s procedure args tries old mid draw_old draw_mid nones passed s' first
      → nones + 1 < tries → 0x7fffffff ≤ s'.number → HeardOnce post s' first mid new (Ok None) → IsTrue (post.tells old)
      → Ends post draw s procedure args old new draw_old draw_mid (IsSpent s tries)
  spent-later old mid draw_old draw_mid nones passed new s' first l lt great once t =
      let w = waited old mid draw_old draw_mid nones passed new s' first (l.told t) (omega (arith, lt)) l.tells t once in
      let n : s'.number ≡ s.number + nones = ap (λ (x : SessionState). x.number) (l.session (omega (arith, lt))) in
      record {
        heard = w.0;
        confounders = w.1;
        course = w.2;
        holds = (omega (arith, w.3, lt), w.5 ∙ sym w.3, omega (arith, w.3, n, great, l.number));
      }

  -- it broke off: while it listened
  pub broke : (old mid : P) (draw_old draw_mid : D) (nones passed : ℕ) (new : P) (s' : SessionState) (first : ℕ) → Loop post draw s procedure args tries old mid draw_old draw_mid nones passed s' first
      → nones < tries → (IsTrue (post.tells mid) → post.sent new ≡ post.sent mid) → IsTrue (post.tells old) → Breaks post draw s procedure args tries old new draw_old draw_mid
  broke old mid draw_old draw_mid nones passed new s' first l lt same t =
      let r = l.told t in
      let t' : IsTrue (post.tells mid) = subst (λ b. IsTrue b) (sym l.tells) t in record {
        confounders = r.confounders;
        drew = r.course.drew;
        many = omega (arith, r.due lt, lt);
        count = length r.confounders;
        sent = same t' ∙ (r.course.sent ∙ ap (λ l. post.sent old ++ l) (sym (sent-all s procedure args r.confounders)));
      }

  -- or while it was to be sent again
  pub broke-again : (old mid : P) (draw_old draw_mid : D) (nones passed : ℕ) (heard new : P) (draw_new : D) (s' : SessionState) (first : ℕ) → Loop post draw s procedure args tries old mid draw_old draw_mid nones passed s' first
      → nones + 1 < tries → HeardOnce post s' first mid heard (Ok None) → (s'' : SessionState) (refusal : PostRefusal) → SentOnce post draw s'' procedure args heard new draw_mid draw_new (Err refusal)
      → IsTrue (post.tells old) → Called post draw s procedure args tries old new draw_old draw_new (Err refusal)
  broke-again old mid draw_old draw_mid nones passed heard new draw_new s' first l lt once s'' refusal sent t =
      let w = waited old mid draw_old draw_mid nones passed heard s' first (l.told t) (omega (arith, lt)) l.tells t once in
      let t' : IsTrue (post.tells heard) = subst (λ b. IsTrue b) (sym (once.tells ∙ l.tells)) t in
      by-refusal (post.sent heard) (post.sent new) (data_call s'' procedure args sent.confounder) old new draw_old draw_new refusal (sent.sent t') (λ same. record {
        confounders = w.1 ++ sent.confounder ∷ [];
        drew = drew-more draw draw_old draw_mid draw_new w.1 sent.confounder w.2.drew sent.drew;
        many = omega (arith, longer w.1 sent.confounder, w.5, lt);
        count = length w.1;
        sent = same ∙ (w.2.sent ∙ ap (λ l. post.sent old ++ l) (sym (take-sends s procedure args 0 w.1 (sent.confounder ∷ []))));
      })
    where
      by-refusal : (a b : List (List ℕ)) (octets : List ℕ) (old' new' : P) (d0 dn : D) (refusal : PostRefusal) → SentBy (Err refusal) a b octets → (b ≡ a → Breaks post draw s procedure args tries old' new' d0 dn) → Called post draw s procedure args tries old' new' d0 dn (Err refusal)
      by-refusal a b octets old' new' d0 dn refusals.PostFault e f = f e
      by-refusal a b octets old' new' d0 dn refusals.NoReply e f = absurd e
      by-refusal a b octets old' new' d0 dn refusals.Flood e f = absurd e
      by-refusal a b octets old' new' d0 dn refusals.Spent e f = absurd e
      by-refusal a b octets old' new' d0 dn (refusals.Refused why) e f = absurd e
      by-refusal a b octets old' new' d0 dn (refusals.BadReply why) e f = absurd e
      by-refusal a b octets old' new' d0 dn (refusals.Negotiation why) e f = absurd e
      by-refusal a b octets old' new' d0 dn refusals.NoMemory e f = f e

  -- or before anything was heard
  pub broke-first : (old new : P) (draw_old draw_new : D) (refusal : PostRefusal) → 0 < tries → SentOnce post draw s procedure args old new draw_old draw_new (Err refusal) → IsTrue (post.tells old) → Called post draw s procedure args tries old new draw_old draw_new (Err refusal)
  broke-first old new draw_old draw_new refusal some once t = by refusal (once.sent t)
    where
      breaks : post.sent new ≡ post.sent old → Breaks post draw s procedure args tries old new draw_old draw_new
      breaks e = record { confounders = once.confounder ∷ []; drew = once.drew; many = omega (arith, some); count = 0; sent = e ∙ sym (append-nil (post.sent old)) }

      by : (r : PostRefusal) → SentBy (Err r) (post.sent old) (post.sent new) (data_call s procedure args once.confounder) → Called post draw s procedure args tries old new draw_old draw_new (Err r)
      by refusals.PostFault e = breaks e
      by refusals.NoMemory e = breaks e
      by refusals.NoReply e = absurd e
      by refusals.Flood e = absurd e
      by refusals.Spent e = absurd e
      by (refusals.Refused why) e = absurd e
      by (refusals.BadReply why) e = absurd e
      by (refusals.Negotiation why) e = absurd e
