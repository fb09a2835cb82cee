-- The calls of a session one after the other.
use Rattle.std.proofs.Common.{◌≡◌, ◌≢◌, inl, inr, ℕ, zero, suc, ◌==◌, Bool, true, false, if◌then◌else◌, IsTrue, List, [], ◌∷◌, ◌++◌, length, take, drop, refl, ap, subst, sym, ◌∙◌, append_assoc, Result, Ok, Err}
use Rattle.std.proofs.Math.Seq.{take-append_seam, drop-append_seam}
use Rattle.std.proofs.lemmas.Bool.{ne_eqb}
use Rattle.std.proofs.lemmas.List.{append-nil}
use Rattle.sec_base.specs.Link.{Wire}
use Rattle.gss_client.specs.declared.conversation.Parting.{Parting}
use Rattle.gss_client.specs.declared.conversation.Parting.TheVariants.{Finished, Spent, Foreign, Refused}
use Rattle.gss_client.specs.Query.{QuerySays}
use Rattle.gss_client.specs.declared.refusal.ClientRefusal.{ClientRefusal}
use Rattle.gss_client.specs.declared.refusal.ClientRefusal.TheVariants.{LinkFault, NoMemory}
use Rattle.gss_client.specs.Conversation.{Conversed, conversed, behind, parted, leaves, goes_on, converses}
use Rattle.gss_client.specs.Conversing.{IsFront, IsConversed, Conferred, Leaves}
use Rattle.gss_client.specs.Exchanging.{Went, Done, Stopped}
use Rattle.gss_client.specs.Session.{SessionState}
use Rattle.gss_client.specs.Talk.{calls, destroys}
use Rattle.gss_client.specs.Talking.{Said, said}
use Rattle.gss_client.proofs.Parts.{went-nothing, went-again}

-- so much was said and answered, and the conversation goes on in this state with so many calls
pub record Held (tells : Bool) (given given' : List ℕ) (times left : ℕ) (query : QuerySays) (args : List ℕ) (s : SessionState) (old new : Wire) (state : SessionState) (results : List (List ℕ)) : Type 0 where
  pub took : List ℕ
  pub wrote : List ℕ
  pub drawn : List ℕ
  pub went : Went old new took wrote
  pub draws : IsTrue tells → given' ≡ given ++ drawn
  pub goes : (later stream : List ℕ) → converses times query args s (drawn ++ later) (took ++ stream) ≡ behind wrote results (converses left query args state later stream)

pub not-begun : (tells : Bool) (given : List ℕ) (times left : ℕ) (query : QuerySays) (args : List ℕ) (s : SessionState) (a : Wire) (results : List (List ℕ)) → left ≡ times → results ≡ [] → Held tells given given times left query args s a a s results
not-begun tells given times left query args s a results all none =
    subst (λ (n : ℕ). Held tells given given times n query args s a a s results) (sym all)
    (subst (λ (rs : List (List ℕ)). Held tells given given times times query args s a a s rs) (sym none)
    (record {
      took = [];
      wrote = [];
      drawn = [];
      went = went-nothing a;
      draws = λ t. sym (append-nil given);
      goes = λ later stream. refl;
    }))

-- the same by equal counts and results
pub held-as : (tells : Bool) (given given' : List ℕ) (times left other : ℕ) (query : QuerySays) (args : List ℕ) (s : SessionState) (a b : Wire) (state : SessionState) (results others : List (List ℕ)) → left ≡ other → results ≡ others → Held tells given given' times left query args s a b state results → Held tells given given' times other query args s a b state others
held-as tells given given' times left other query args s a b state results others one two h =
    subst (λ (n : ℕ). Held tells given given' times n query args s a b state others) one (subst (λ (rs : List (List ℕ)). Held tells given given' times left query args s a b state rs) two h)

-- ---- one call

-- what the talk says of a call
abbrev by_call : ℕ → QuerySays → List ℕ → List ℕ → Said (SessionState × List ℕ) → Conversed
by_call left query args undrawn one = goes_on query one.written undrawn one.rest (converses left query args) one.answer

call-due : (left : ℕ) (query : QuerySays) (args : List ℕ) (s : SessionState) (draws stream : List ℕ) → (s.number == 2147483648) ≡ false → converses (suc left) query args s draws stream ≡ by_call left query args (drop 16 draws) (calls s query.number args (take 16 draws) stream)
unfolding converses
call-due left query args s draws stream e = rw e refl

-- with the next octets as its confounder
call-is : (left : ℕ) (query : QuerySays) (args : List ℕ) (s : SessionState) (confounder later stream : List ℕ) → (s.number == 2147483648) ≡ false → length confounder ≡ 16 → converses (suc left) query args s (confounder ++ later) stream ≡ by_call left query args later (calls s query.number args confounder stream)
call-is left query args s confounder later stream e size =
    let first : take 16 (confounder ++ later) ≡ confounder = subst (λ (n : ℕ). take n (confounder ++ later) ≡ confounder) size (take-append_seam confounder later) in
    let others : drop 16 (confounder ++ later) ≡ later = subst (λ (n : ℕ). drop n (confounder ++ later) ≡ later) size (drop-append_seam confounder later) in
    call-due left query args s (confounder ++ later) stream e
    ∙ (ap (λ (draws : List ℕ). by_call left query args draws (calls s query.number args (take 16 (confounder ++ later)) stream)) others
    ∙ ap (λ (draws : List ℕ). by_call left query args later (calls s query.number args draws stream)) first)

-- the conversation up to a call
up-to : (tells : Bool) (given given' : List ℕ) (times left : ℕ) (query : QuerySays) (args : List ℕ) (s : SessionState) (a b : Wire) (state : SessionState) (results : List (List ℕ)) (confounder took later stream : List ℕ) (h : Held tells given given' times (suc left) query args s a b state results) → (state.number == 2147483648) ≡ false → length confounder ≡ 16
    → converses times query args s ((h.drawn ++ confounder) ++ later) ((h.took ++ took) ++ stream) ≡ behind h.wrote results (by_call left query args later (calls state query.number args confounder (took ++ stream)))
up-to tells given given' times left query args s a b state results confounder took later stream h e size =
    ap (λ (draws : List ℕ). converses times query args s draws ((h.took ++ took) ++ stream)) (append_assoc h.drawn confounder later)
    ∙ (ap (converses times query args s (h.drawn ++ (confounder ++ later))) (append_assoc h.took took stream)
    ∙ (h.goes (confounder ++ later) (took ++ stream) ∙ ap (behind h.wrote results) (call-is left query args state confounder later (took ++ stream) e size)))

drawn-more : (tells tells' : Bool) (given new later drawn confounder : List ℕ) → (IsTrue tells' → IsTrue tells) → (IsTrue tells' → later ≡ new ++ confounder) → (IsTrue tells → new ≡ given ++ drawn) → IsTrue tells' → later ≡ given ++ (drawn ++ confounder)
drawn-more tells tells' given new later drawn confounder kept told d t = told t ∙ (ap (λ (zs : List ℕ). zs ++ confounder) (d (kept t)) ∙ append_assoc given drawn confounder)

behind-twice : (wrote more : List ℕ) (results others : List (List ℕ)) (c : Conversed) → behind wrote results (behind more others c) ≡ behind (wrote ++ more) (results ++ others) c
behind-twice wrote more results others c =
    ap (λ (zs : List ℕ). conversed zs (results ++ (others ++ c.results)) c.parting c.undrawn c.rest) (sym (append_assoc wrote more c.written))
    ∙ ap (λ (zs : List (List ℕ)). conversed ((wrote ++ more) ++ c.written) zs c.parting c.undrawn c.rest) (sym (append_assoc results others c.results))

counted : (left : ℕ) (query : QuerySays) (args later wrote rest : List ℕ) (next : SessionState) (result : List ℕ) → query.is_result result ≡ true → by_call left query args later (said wrote (Ok (next, result)) rest) ≡ behind wrote (result ∷ []) (converses left query args next later rest)
counted left query args later wrote rest next result e = rw e refl

pub one-call : (tells tells' : Bool) (given new drawn' confounder : List ℕ) (times left : ℕ) (query : QuerySays) (args : List ℕ) (s : SessionState) (a b c : Wire) (state next : SessionState) (results : List (List ℕ)) (result : List ℕ)
    → (IsTrue tells' → IsTrue tells) → (IsTrue tells' → drawn' ≡ new ++ confounder) → length confounder ≡ 16 → (state.number == 2147483648) ≡ false → Held tells given new times (suc left) query args s a b state results → Done (calls state query.number args confounder) b c (next, result) → query.is_result result ≡ true
    → Held tells' given drawn' times left query args s a c next (results ++ result ∷ [])
one-call tells tells' given new drawn' confounder times left query args s a b c state next results result kept told size e h d is = record {
  took = h.took ++ d.took;
  wrote = h.wrote ++ d.wrote;
  drawn = h.drawn ++ confounder;
  went = went-again h.went d.went;
  draws = drawn-more tells tells' given new drawn' h.drawn confounder kept told h.draws;
  goes = λ later stream.
      up-to tells given new times left query args s a b state results confounder d.took later stream h e size
      ∙ (ap (λ (one : Said (SessionState × List ℕ)). behind h.wrote results (by_call left query args later one)) (d.whole stream)
      ∙ (ap (behind h.wrote results) (counted left query args later d.wrote stream next result is)
      ∙ behind-twice h.wrote d.wrote results (result ∷ []) (converses left query args next later stream)));
}

-- ---- a call that isn't answered as it is to be

-- from one equation to what is promised of a conversation that ended
is-front : (c d : Conversed) (wrote more : List ℕ) (results others : List (List ℕ)) → c ≡ d → d.written ≡ wrote ++ more → d.results ≡ results ++ others → IsFront wrote c.written × IsFront results c.results
is-front c d wrote more results others e one two = ((more, ap (λ (x : Conversed). x.written) e ∙ one), (others, ap (λ (x : Conversed). x.results) e ∙ two))

is-whole : (c : Conversed) (wrote undrawn rest : List ℕ) (results : List (List ℕ)) (parting : Parting) → c ≡ conversed wrote results parting undrawn rest → IsConversed wrote results parting undrawn c
is-whole c wrote undrawn rest results parting e = record {
  written = ap (λ (x : Conversed). x.written) e;
  results_are = ap (λ (x : Conversed). x.results) e;
  parts = ap (λ (x : Conversed). x.parting) e;
  undrawn_is = ap (λ (x : Conversed). x.undrawn) e;
}

foreign-is : (left : ℕ) (query : QuerySays) (args later wrote rest : List ℕ) (next : SessionState) (result : List ℕ) → query.is_result result ≡ false → by_call left query args later (said wrote (Ok (next, result)) rest) ≡ conversed wrote [] Foreign later rest
foreign-is left query args later wrote rest next result e = rw e refl

pub foreign-call : (tells tells' : Bool) (given new drawn' confounder : List ℕ) (times left : ℕ) (query : QuerySays) (args : List ℕ) (s : SessionState) (a b c : Wire) (state next : SessionState) (results : List (List ℕ)) (result : List ℕ)
    → (IsTrue tells' → IsTrue tells) → (IsTrue tells' → drawn' ≡ new ++ confounder) → length confounder ≡ 16 → (state.number == 2147483648) ≡ false → Held tells given new times (suc left) query args s a b state results → Done (calls state query.number args confounder) b c (next, result) → query.is_result result ≡ false
    → Conferred tells' given drawn' times query args s a c results Foreign
foreign-call tells tells' given new drawn' confounder times left query args s a b c state next results result kept told size e h d is =
    let all : (later : List ℕ) → converses times query args s ((h.drawn ++ confounder) ++ later) ((h.took ++ d.took) ++ c.coming) ≡ conversed (h.wrote ++ d.wrote) results Foreign later c.coming =
    λ later.
    up-to tells given new times left query args s a b state results confounder d.took later c.coming h e size
    ∙ (ap (λ (one : Said (SessionState × List ℕ)). behind h.wrote results (by_call left query args later one)) (d.whole c.coming)
    ∙ (ap (behind h.wrote results) (foreign-is left query args later d.wrote c.coming next result is)
    ∙ ap (λ (zs : List (List ℕ)). conversed (h.wrote ++ d.wrote) zs Foreign later c.coming) (append-nil results))) in
    record {
      took = h.took ++ d.took;
      wrote = h.wrote ++ d.wrote;
      drawn = h.drawn ++ confounder;
      went = went-again h.went d.went;
      draws = drawn-more tells tells' given new drawn' h.drawn confounder kept told h.draws;
      front = λ later. is-front _ _ (h.wrote ++ d.wrote) [] results [] (all later) (sym (append-nil (h.wrote ++ d.wrote))) (sym (append-nil results));
      whole = λ fault memory later. is-whole _ (h.wrote ++ d.wrote) later c.coming results Foreign (all later);
      heard = λ unrefused later. ap (λ (x : Conversed). x.rest) (all later);
    }

-- what was written of a call is a front of what is written in all
further-by : (query : QuerySays) (wrote undrawn rest : List ℕ) (next : SessionState → List ℕ → List ℕ → Conversed) (state : SessionState) (result : List ℕ) (is : Bool) → (more : List ℕ) × ((if is then behind wrote (result ∷ []) (next state undrawn rest) else conversed wrote [] Foreign undrawn rest).written ≡ wrote ++ more)
further-by query wrote undrawn rest next state result true = ((next state undrawn rest).written, refl)
further-by query wrote undrawn rest next state result false = ([], sym (append-nil wrote))

further : (query : QuerySays) (wrote undrawn rest : List ℕ) (next : SessionState → List ℕ → List ℕ → Conversed) (answer : Result (SessionState × List ℕ) ClientRefusal) → (more : List ℕ) × ((goes_on query wrote undrawn rest next answer).written ≡ wrote ++ more)
further query wrote undrawn rest next (Ok called) = further-by query wrote undrawn rest next called.0 called.1 (query.is_result called.1)
further query wrote undrawn rest next (Err refusal) = ([], sym (append-nil wrote))

refused-is : (left : ℕ) (query : QuerySays) (args later : List ℕ) (one : Said (SessionState × List ℕ)) (refusal : ClientRefusal) → one.answer ≡ Err refusal → by_call left query args later one ≡ conversed one.written [] (Refused refusal) later one.rest
refused-is left query args later one refusal e = ap (goes_on query one.written later one.rest (converses left query args)) e

pub refused-call : (tells tells' : Bool) (given new drawn' confounder : List ℕ) (times left : ℕ) (query : QuerySays) (args : List ℕ) (s : SessionState) (a b c : Wire) (state : SessionState) (results : List (List ℕ)) (refusal : ClientRefusal)
    → (IsTrue tells' → IsTrue tells) → (IsTrue tells' → drawn' ≡ new ++ confounder) → length confounder ≡ 16 → (state.number == 2147483648) ≡ false → Held tells given new times (suc left) query args s a b state results → Stopped (calls state query.number args confounder) b c refusal
    → Conferred tells' given drawn' times query args s a c results (Refused refusal)
refused-call tells tells' given new drawn' confounder times left query args s a b c state results refusal kept told size e h d =
    let one : Said (SessionState × List ℕ) = calls state query.number args confounder (d.took ++ c.coming) in
    let all : (later : List ℕ) → converses times query args s ((h.drawn ++ confounder) ++ later) ((h.took ++ d.took) ++ c.coming) ≡ behind h.wrote results (by_call left query args later one) =
    λ later. up-to tells given new times left query args s a b state results confounder d.took later c.coming h e size in
    record {
      took = h.took ++ d.took;
      wrote = h.wrote ++ d.wrote;
      drawn = h.drawn ++ confounder;
      went = went-again h.went d.went;
      draws = drawn-more tells tells' given new drawn' h.drawn confounder kept told h.draws;
      front = λ later.
          let f : (more : List ℕ) × ((by_call left query args later one).written ≡ one.written ++ more) = further query one.written later one.rest (converses left query args) one.answer in
          is-front _ _ (h.wrote ++ d.wrote) (d.front.0 ++ f.0) results (by_call left query args later one).results (all later)
          (ap (λ (zs : List ℕ). h.wrote ++ zs) (f.1 ∙ (ap (λ (zs : List ℕ). zs ++ f.0) d.front.1 ∙ append_assoc d.wrote d.front.0 f.0)) ∙ sym (append_assoc h.wrote d.wrote (d.front.0 ++ f.0)))
          refl;
      whole = λ fault memory later.
          let lf : refusal ≢ LinkFault = λ is. fault (ap Refused is) in
          let lm : refusal ≢ NoMemory = λ is. memory (ap Refused is) in
          is-whole _ (h.wrote ++ d.wrote) later one.rest results (Refused refusal)
          (all later
          ∙ (ap (behind h.wrote results) (refused-is left query args later one refusal (d.cause lf lm))
          ∙ (ap (λ (zs : List ℕ). conversed (h.wrote ++ zs) (results ++ []) (Refused refusal) later one.rest) (sym (d.whole lf lm))
          ∙ ap (λ (zs : List (List ℕ)). conversed (h.wrote ++ d.wrote) zs (Refused refusal) later one.rest) (append-nil results))));
      heard = λ unrefused. absurd (unrefused refusal refl);
    }

pub no-room : (tells : Bool) (given given' : List ℕ) (times left : ℕ) (query : QuerySays) (args : List ℕ) (s : SessionState) (a b : Wire) (state : SessionState) (results : List (List ℕ)) → Held tells given given' times left query args s a b state results → Conferred tells given given' times query args s a b results (Refused NoMemory)
no-room tells given given' times left query args s a b state results h = record {
  took = h.took;
  wrote = h.wrote;
  drawn = h.drawn;
  went = h.went;
  draws = h.draws;
  front = λ later. is-front _ _ h.wrote _ results _ (h.goes later b.coming) refl refl;
  whole = λ fault memory. absurd (memory refl);
  heard = λ unrefused. absurd (unrefused NoMemory refl);
}

-- ---- the end

ends-finished : (query : QuerySays) (args : List ℕ) (s : SessionState) (draws stream : List ℕ) → converses zero query args s draws stream ≡ leaves Finished draws (destroys s stream)
unfolding converses
ends-finished query args s draws stream = refl

ends-spent : (left : ℕ) (query : QuerySays) (args : List ℕ) (s : SessionState) (draws stream : List ℕ) → (s.number == 2147483648) ≡ true → converses (suc left) query args s draws stream ≡ leaves Spent draws (destroys s stream)
unfolding converses
ends-spent left query args s draws stream e = rw e refl

destroyed-is : (later : List ℕ) (one : Said (Unit {0})) (refusal : ClientRefusal) (due : Parting) → one.answer ≡ Err refusal → leaves due later one ≡ conversed one.written [] (Refused refusal) later one.rest
destroyed-is later one refusal due e = ap (λ (answer : Result (Unit {0}) ClientRefusal). conversed one.written [] (parted due answer) later one.rest) e

leaving : (tells : Bool) (given given' : List ℕ) (times left : ℕ) (query : QuerySays) (args : List ℕ) (s : SessionState) (a b c : Wire) (state : SessionState) (results : List (List ℕ)) (due parting : Parting)
    → ((later stream : List ℕ) → converses left query args state later stream ≡ leaves due later (destroys state stream)) → Held tells given given' times left query args s a b state results → Leaves state b c due parting
    → Conferred tells given given' times query args s a c results parting
leaving tells given given' times left query args s a b c state results due parting ends h (inl l) =
    let d : Done (destroys state) b c tt = l.0 in
    let all : (later : List ℕ) → converses times query args s (h.drawn ++ later) ((h.took ++ d.took) ++ c.coming) ≡ conversed (h.wrote ++ d.wrote) results parting later c.coming =
    λ later.
    ap (converses times query args s (h.drawn ++ later)) (append_assoc h.took d.took c.coming)
    ∙ (h.goes later (d.took ++ c.coming)
    ∙ (ap (behind h.wrote results) (ends later (d.took ++ c.coming) ∙ ap (leaves due later) (d.whole c.coming))
    ∙ (ap (λ (zs : List (List ℕ)). conversed (h.wrote ++ d.wrote) zs due later c.coming) (append-nil results)
    ∙ ap (λ (p : Parting). conversed (h.wrote ++ d.wrote) results p later c.coming) (sym l.1)))) in
    record {
      took = h.took ++ d.took;
      wrote = h.wrote ++ d.wrote;
      drawn = h.drawn;
      went = went-again h.went d.went;
      draws = h.draws;
      front = λ later. is-front _ _ (h.wrote ++ d.wrote) [] results [] (all later) (sym (append-nil (h.wrote ++ d.wrote))) (sym (append-nil results));
      whole = λ fault memory later. is-whole _ (h.wrote ++ d.wrote) later c.coming results parting (all later);
      heard = λ unrefused later. ap (λ (x : Conversed). x.rest) (all later);
    }
leaving tells given given' times left query args s a b c state results due parting ends h (inr l) =
    let refusal : ClientRefusal = l.0 in
    let d : Stopped (destroys state) b c refusal = l.2 in
    let one : Said (Unit {0}) = destroys state (d.took ++ c.coming) in
    let all : (later : List ℕ) → converses times query args s (h.drawn ++ later) ((h.took ++ d.took) ++ c.coming) ≡ behind h.wrote results (leaves due later one) =
    λ later.
    ap (converses times query args s (h.drawn ++ later)) (append_assoc h.took d.took c.coming)
    ∙ (h.goes later (d.took ++ c.coming) ∙ ap (behind h.wrote results) (ends later (d.took ++ c.coming))) in
    record {
      took = h.took ++ d.took;
      wrote = h.wrote ++ d.wrote;
      drawn = h.drawn;
      went = went-again h.went d.went;
      draws = h.draws;
      front = λ later.
          is-front _ _ (h.wrote ++ d.wrote) d.front.0 results [] (all later)
          (ap (λ (zs : List ℕ). h.wrote ++ zs) d.front.1 ∙ sym (append_assoc h.wrote d.wrote d.front.0))
          refl;
      whole = λ fault memory later.
          let lf : refusal ≢ LinkFault = λ is. fault (l.1 ∙ ap Refused is) in
          let lm : refusal ≢ NoMemory = λ is. memory (l.1 ∙ ap Refused is) in
          is-whole _ (h.wrote ++ d.wrote) later one.rest results parting
          (all later
          ∙ (ap (behind h.wrote results) (destroyed-is later one refusal due (d.cause lf lm))
          ∙ (ap (λ (zs : List ℕ). conversed (h.wrote ++ zs) (results ++ []) (Refused refusal) later one.rest) (sym (d.whole lf lm))
          ∙ (ap (λ (zs : List (List ℕ)). conversed (h.wrote ++ d.wrote) zs (Refused refusal) later one.rest) (append-nil results)
          ∙ ap (λ (p : Parting). conversed (h.wrote ++ d.wrote) results p later one.rest) (sym l.1)))));
      heard = λ unrefused. absurd (unrefused refusal l.1);
    }

pub all-called : (tells : Bool) (given given' : List ℕ) (times left : ℕ) (query : QuerySays) (args : List ℕ) (s : SessionState) (a b c : Wire) (state : SessionState) (results : List (List ℕ)) (parting : Parting) → left ≡ 0 → Held tells given given' times left query args s a b state results → Leaves state b c Finished parting → Conferred tells given given' times query args s a c results parting
all-called tells given given' times left query args s a b c state results parting none h l =
    leaving tells given given' times zero query args s a b c state results Finished parting (ends-finished query args state)
    (subst (λ (n : ℕ). Held tells given given' times n query args s a b state results) none h) l

pub no-number : (tells : Bool) (given given' : List ℕ) (times left : ℕ) (query : QuerySays) (args : List ℕ) (s : SessionState) (a b c : Wire) (state : SessionState) (results : List (List ℕ)) (parting : Parting) → (state.number == 2147483648) ≡ true → Held tells given given' times (suc left) query args s a b state results → Leaves state b c Spent parting → Conferred tells given given' times query args s a c results parting
no-number tells given given' times left query args s a b c state results parting last h l =
    leaving tells given given' times (suc left) query args s a b c state results Spent parting (λ later stream. ends-spent left query args state later stream last) h l

-- ---- as the code has it

pub is-end : (s : SessionState) (number : ℕ) → number ≡ s.number → number ≡ 2147483648 → (s.number == 2147483648) ≡ true
is-end s number same e = let is : s.number ≡ 2147483648 = sym same ∙ e in rw is refl

pub is-no-end : (s : SessionState) (number : ℕ) → number ≡ s.number → (number ≡ 2147483648 → ⊥) → (s.number == 2147483648) ≡ false
is-no-end s number same e = ne_eqb s.number 2147483648 (λ is. e (same ∙ is))

pub by-number : (s : SessionState) (args confounder : List ℕ) (number : ℕ) (query : QuerySays) (a b : Wire) (value : SessionState × List ℕ) → number ≡ query.number → Done (calls s number args confounder) a b value → Done (calls s query.number args confounder) a b value
by-number s args confounder number query a b value e d = subst (λ (n : ℕ). Done (calls s n args confounder) a b value) e d

pub by-number-refused : (s : SessionState) (args confounder : List ℕ) (number : ℕ) (query : QuerySays) (a b : Wire) (refusal : ClientRefusal) → number ≡ query.number → Stopped (calls s number args confounder) a b refusal → Stopped (calls s query.number args confounder) a b refusal
by-number-refused s args confounder number query a b refusal e d = subst (λ (n : ℕ). Stopped (calls s n args confounder) a b refusal) e d
