-- The calls of a session that may differ, one after the other.
use Rattle.std.proofs.Common.{get_or, add-one, drop-cons, ◌+◌, ◌<◌, ◌≤◌, ◌≡◌, ◌≢◌, inl, inr, ℕ, suc, ◌==◌, Bool, true, false, if◌then◌else◌, IsTrue, List, [], ◌∷◌, ◌++◌, length, take, drop, refl, ap, subst, sym, ◌∙◌, append_assoc, Result, Ok, Err}
use Rattle.std.proofs.Math.Seq.{take-append_seam, drop-append_seam}
use Rattle.std.proofs.lemmas.Bool.{ne_eqb}
use Rattle.std.proofs.lemmas.List.{append-nil, drop_all}
use Rattle.sec_base.specs.Link.{Wire}
use Rattle.aes_cts.specs.Cipher.{IsOctets}
use Rattle.aes_cts.proofs.Restored.{append-IsOctets, replicate-IsOctets}
use Rattle.gss_client.specs.declared.conversation.Parting.{Parting}
use Rattle.gss_client.specs.declared.conversation.Parting.TheVariants.{Finished, Spent, Foreign, Refused}
use Rattle.gss_client.specs.Query.{QuerySays}
use Rattle.gss_client.specs.declared.refusal.ClientRefusal.{ClientRefusal}
use Rattle.gss_client.specs.declared.refusal.ClientRefusal.TheVariants.{LinkFault, NoMemory}
use Rattle.gss_client.specs.Conversation.{Conversed, conversed, behind, parted, leaves, goes_on}
use Rattle.gss_client.specs.Conversing.{IsFront, IsConversed, Leaves}
use Rattle.gss_client.specs.Exchanging.{Went, Done, Stopped}
use Rattle.gss_client.specs.Session.{SessionState}
use Rattle.gss_client.specs.Talk.{calls, destroys}
use Rattle.gss_client.specs.Talking.{Said, said}
use Rattle.gss_client.proofs.Parts.{went-nothing, went-again}
use Rattle.gss_client.specs.Conferring.{DueCall, DueOf, call_of, calls_of, confers}
use Rattle.gss_client.specs.Holding.{ConferredOf}

-- so much was said and answered, and the conversation goes on in this state with so many calls
pub record Held (tells : Bool) (given given' : List ℕ) (every left : List DueCall) (s : SessionState) (old new : Wire) (state : SessionState) (results : List (List ℕ)) : Type 0 where
  pub took : List ℕ
  pub wrote : List ℕ
  pub drawn : List ℕ
  pub octets : IsOctets drawn
  pub went : Went old new took wrote
  pub draws : IsTrue tells → given' ≡ given ++ drawn
  pub goes : (later stream : List ℕ) → confers every s (drawn ++ later) (took ++ stream) ≡ behind wrote results (confers left state later stream)

pub not-begun : (tells : Bool) (given : List ℕ) (every left : List DueCall) (s : SessionState) (a : Wire) (results : List (List ℕ)) → left ≡ every → results ≡ [] → Held tells given given every left s a a s results
not-begun tells given every left s a results all none =
    subst (λ (n : List DueCall). Held tells given given every n s a a s results) (sym all)
    (subst (λ (rs : List (List ℕ)). Held tells given given every every s a a s rs) (sym none)
    (record {
      took = [];
      wrote = [];
      drawn = [];
      octets = replicate-IsOctets 0;
      went = went-nothing a;
      draws = λ t. sym (append-nil given);
      goes = λ later stream. refl;
    }))

-- the same by equal counts and results
pub held-as : (tells : Bool) (given given' : List ℕ) (every left other : List DueCall) (s : SessionState) (a b : Wire) (state : SessionState) (results others : List (List ℕ)) → left ≡ other → results ≡ others → Held tells given given' every left s a b state results → Held tells given given' every other s a b state others
held-as tells given given' every left other s a b state results others one two h =
    subst (λ (n : List DueCall). Held tells given given' every n s a b state others) one (subst (λ (rs : List (List ℕ)). Held tells given given' every left s a b state rs) two h)

-- ---- one call

-- what the talk says of a call
abbrev by_call : DueCall → List DueCall → List ℕ → Said (SessionState × List ℕ) → Conversed
by_call call left undrawn one = goes_on call.query one.written undrawn one.rest (confers left) one.answer

call-due : (call : DueCall) (left : List DueCall) (s : SessionState) (draws stream : List ℕ) → (s.number == 0x80000000) ≡ false → confers (call ∷ left) s draws stream ≡ by_call call left (drop 16 draws) (calls s call.query.number call.args (take 16 draws) stream)
unfolding confers
call-due call left s draws stream e = rw e refl

-- with the next octets as its confounder
call-is : (call : DueCall) (left : List DueCall) (s : SessionState) (confounder later stream : List ℕ) → (s.number == 0x80000000) ≡ false → length confounder ≡ 16 → confers (call ∷ left) s (confounder ++ later) stream ≡ by_call call left later (calls s call.query.number call.args confounder stream)
call-is call left s confounder later stream e size =
    let first : take 16 (confounder ++ later) ≡ confounder = subst (λ (n : ℕ). take n (confounder ++ later) ≡ confounder) size (take-append_seam confounder later) in
    let others : drop 16 (confounder ++ later) ≡ later = subst (λ (n : ℕ). drop n (confounder ++ later) ≡ later) size (drop-append_seam confounder later) in
    call-due call left s (confounder ++ later) stream e
    ∙ (ap (λ (draws : List ℕ). by_call call left draws (calls s call.query.number call.args (take 16 (confounder ++ later)) stream)) others
    ∙ ap (λ (draws : List ℕ). by_call call left later (calls s call.query.number call.args draws stream)) first)

-- the conversation up to a call
up-to : (tells : Bool) (given given' : List ℕ) (every : List DueCall) (call : DueCall) (left : List DueCall) (s : SessionState) (a b : Wire) (state : SessionState) (results : List (List ℕ)) (confounder took later stream : List ℕ) (h : Held tells given given' every (call ∷ left) s a b state results) → (state.number == 0x80000000) ≡ false → length confounder ≡ 16
    → confers every s ((h.drawn ++ confounder) ++ later) ((h.took ++ took) ++ stream) ≡ behind h.wrote results (by_call call left later (calls state call.query.number call.args confounder (took ++ stream)))
up-to tells given given' every call left s a b state results confounder took later stream h e size =
    ap (λ (draws : List ℕ). confers every s draws ((h.took ++ took) ++ stream)) (append_assoc h.drawn confounder later)
    ∙ (ap (confers every s (h.drawn ++ (confounder ++ later))) (append_assoc h.took took stream)
    ∙ (h.goes (confounder ++ later) (took ++ stream) ∙ ap (behind h.wrote results) (call-is call left state confounder later (took ++ stream) e size)))

drawn-more : (tells tells' : Bool) (given new later drawn confounder : List ℕ) → (IsTrue tells' → IsTrue tells) → (IsTrue tells' → later ≡ new ++ confounder) → (IsTrue tells → new ≡ given ++ drawn) → IsTrue tells' → later ≡ given ++ (drawn ++ confounder)
drawn-more tells tells' given new later drawn confounder kept told d t = told t ∙ (ap (λ (zs : List ℕ). zs ++ confounder) (d (kept t)) ∙ append_assoc given drawn confounder)

behind-twice : (wrote more : List ℕ) (results others : List (List ℕ)) (c : Conversed) → behind wrote results (behind more others c) ≡ behind (wrote ++ more) (results ++ others) c
behind-twice wrote more results others c =
    ap (λ (zs : List ℕ). conversed zs (results ++ (others ++ c.results)) c.parting c.undrawn c.rest) (sym (append_assoc wrote more c.written))
    ∙ ap (λ (zs : List (List ℕ)). conversed ((wrote ++ more) ++ c.written) zs c.parting c.undrawn c.rest) (sym (append_assoc results others c.results))

counted : (call : DueCall) (left : List DueCall) (later wrote rest : List ℕ) (next : SessionState) (result : List ℕ) → call.query.is_result result ≡ true → by_call call left later (said wrote (Ok (next, result)) rest) ≡ behind wrote (result ∷ []) (confers left next later rest)
counted call left later wrote rest next result e = rw e refl

pub one-call : (tells tells' : Bool) (given new drawn' confounder : List ℕ) (every : List DueCall) (call : DueCall) (left : List DueCall) (s : SessionState) (a b c : Wire) (state next : SessionState) (results : List (List ℕ)) (result : List ℕ)
    → (IsTrue tells' → IsTrue tells) → (IsTrue tells' → drawn' ≡ new ++ confounder) → length confounder ≡ 16 → IsOctets confounder → (state.number == 0x80000000) ≡ false → Held tells given new every (call ∷ left) s a b state results → Done (calls state call.query.number call.args confounder) b c (next, result) → call.query.is_result result ≡ true
    → Held tells' given drawn' every left s a c next (results ++ result ∷ [])
one-call tells tells' given new drawn' confounder every call left s a b c state next results result kept told size drew e h d is = record {
  took = h.took ++ d.took;
  wrote = h.wrote ++ d.wrote;
  drawn = h.drawn ++ confounder;
  octets = append-IsOctets h.drawn confounder h.octets drew;
  went = went-again h.went d.went;
  draws = drawn-more tells tells' given new drawn' h.drawn confounder kept told h.draws;
  goes = λ later stream.
      up-to tells given new every call left s a b state results confounder d.took later stream h e size
      ∙ (ap (λ (one : Said (SessionState × List ℕ)). behind h.wrote results (by_call call left later one)) (d.whole stream)
      ∙ (ap (behind h.wrote results) (counted call left later d.wrote stream next result is)
      ∙ behind-twice h.wrote d.wrote results (result ∷ []) (confers left next later stream)));
}

-- ---- a call that isn't answered as it is to be

-- from one equation to what is promised of a conversation that ended
is-front : (c d : Conversed) (wrote more : List ℕ) (results others : List (List ℕ)) → c ≡ d → d.written ≡ wrote ++ more → d.results ≡ results ++ others → IsFront wrote c.written × IsFront results c.results
is-front c d wrote more results others e one two = ((more, ap (λ (x : Conversed). x.written) e ∙ one), (others, ap (λ (x : Conversed). x.results) e ∙ two))

is-whole : (c : Conversed) (wrote undrawn rest : List ℕ) (results : List (List ℕ)) (parting : Parting) → c ≡ conversed wrote results parting undrawn rest → IsConversed wrote results parting undrawn c
is-whole c wrote undrawn rest results parting e = record {
  written = ap (λ (x : Conversed). x.written) e;
  results_are = ap (λ (x : Conversed). x.results) e;
  parts = ap (λ (x : Conversed). x.parting) e;
  undrawn_is = ap (λ (x : Conversed). x.undrawn) e;
}

foreign-is : (call : DueCall) (left : List DueCall) (later wrote rest : List ℕ) (next : SessionState) (result : List ℕ) → call.query.is_result result ≡ false → by_call call left later (said wrote (Ok (next, result)) rest) ≡ conversed wrote [] Foreign later rest
foreign-is call left later wrote rest next result e = rw e refl

pub foreign-call : (tells tells' : Bool) (given new drawn' confounder : List ℕ) (every : List DueCall) (call : DueCall) (left : List DueCall) (s : SessionState) (a b c : Wire) (state next : SessionState) (results : List (List ℕ)) (result : List ℕ)
    → (IsTrue tells' → IsTrue tells) → (IsTrue tells' → drawn' ≡ new ++ confounder) → length confounder ≡ 16 → IsOctets confounder → (state.number == 0x80000000) ≡ false → Held tells given new every (call ∷ left) s a b state results → Done (calls state call.query.number call.args confounder) b c (next, result) → call.query.is_result result ≡ false
    → ConferredOf tells' given drawn' every s a c results Foreign
foreign-call tells tells' given new drawn' confounder every call left s a b c state next results result kept told size drew e h d is =
    let all : (later : List ℕ) → confers every s ((h.drawn ++ confounder) ++ later) ((h.took ++ d.took) ++ c.coming) ≡ conversed (h.wrote ++ d.wrote) results Foreign later c.coming =
    λ later.
    up-to tells given new every call left s a b state results confounder d.took later c.coming h e size
    ∙ (ap (λ (one : Said (SessionState × List ℕ)). behind h.wrote results (by_call call left later one)) (d.whole c.coming)
    ∙ (ap (behind h.wrote results) (foreign-is call left later d.wrote c.coming next result is)
    ∙ ap (λ (zs : List (List ℕ)). conversed (h.wrote ++ d.wrote) zs Foreign later c.coming) (append-nil results))) in
    record {
      took = h.took ++ d.took;
      wrote = h.wrote ++ d.wrote;
      drawn = h.drawn ++ confounder;
      octets = append-IsOctets h.drawn confounder h.octets drew;
      went = went-again h.went d.went;
      draws = drawn-more tells tells' given new drawn' h.drawn confounder kept told h.draws;
      front = λ later. is-front _ _ (h.wrote ++ d.wrote) [] results [] (all later) (sym (append-nil (h.wrote ++ d.wrote))) (sym (append-nil results));
      whole = λ fault memory later. is-whole _ (h.wrote ++ d.wrote) later c.coming results Foreign (all later);
      heard = λ unrefused later. ap (λ (x : Conversed). x.rest) (all later);
    }

-- what was written of a call is a front of what is written in all
further-by : (query : QuerySays) (wrote undrawn rest : List ℕ) (next : SessionState → List ℕ → List ℕ → Conversed) (state : SessionState) (result : List ℕ) (is : Bool) → (more : List ℕ) × ((if is then behind wrote (result ∷ []) (next state undrawn rest) else conversed wrote [] Foreign undrawn rest).written ≡ wrote ++ more)
further-by query wrote undrawn rest next state result true = ((next state undrawn rest).written, refl)
further-by query wrote undrawn rest next state result false = ([], sym (append-nil wrote))

further : (query : QuerySays) (wrote undrawn rest : List ℕ) (next : SessionState → List ℕ → List ℕ → Conversed) (answer : Result (SessionState × List ℕ) ClientRefusal) → (more : List ℕ) × ((goes_on query wrote undrawn rest next answer).written ≡ wrote ++ more)
further query wrote undrawn rest next (Ok called) = further-by query wrote undrawn rest next called.0 called.1 (query.is_result called.1)
further query wrote undrawn rest next (Err refusal) = ([], sym (append-nil wrote))

refused-is : (call : DueCall) (left : List DueCall) (later : List ℕ) (one : Said (SessionState × List ℕ)) (refusal : ClientRefusal) → one.answer ≡ Err refusal → by_call call left later one ≡ conversed one.written [] (Refused refusal) later one.rest
refused-is call left later one refusal e = ap (goes_on call.query one.written later one.rest (confers left)) e

pub refused-call : (tells tells' : Bool) (given new drawn' confounder : List ℕ) (every : List DueCall) (call : DueCall) (left : List DueCall) (s : SessionState) (a b c : Wire) (state : SessionState) (results : List (List ℕ)) (refusal : ClientRefusal)
    → (IsTrue tells' → IsTrue tells) → (IsTrue tells' → drawn' ≡ new ++ confounder) → length confounder ≡ 16 → IsOctets confounder → (state.number == 0x80000000) ≡ false → Held tells given new every (call ∷ left) s a b state results → Stopped (calls state call.query.number call.args confounder) b c refusal
    → ConferredOf tells' given drawn' every s a c results (Refused refusal)
refused-call tells tells' given new drawn' confounder every call left s a b c state results refusal kept told size drew e h d =
    let one : Said (SessionState × List ℕ) = calls state call.query.number call.args confounder (d.took ++ c.coming) in
    let all : (later : List ℕ) → confers every s ((h.drawn ++ confounder) ++ later) ((h.took ++ d.took) ++ c.coming) ≡ behind h.wrote results (by_call call left later one) =
    λ later. up-to tells given new every call left s a b state results confounder d.took later c.coming h e size in
    record {
      took = h.took ++ d.took;
      wrote = h.wrote ++ d.wrote;
      drawn = h.drawn ++ confounder;
      octets = append-IsOctets h.drawn confounder h.octets drew;
      went = went-again h.went d.went;
      draws = drawn-more tells tells' given new drawn' h.drawn confounder kept told h.draws;
      front = λ later.
          let f : (more : List ℕ) × ((by_call call left later one).written ≡ one.written ++ more) = further call.query one.written later one.rest (confers left) one.answer in
          is-front _ _ (h.wrote ++ d.wrote) (d.front.0 ++ f.0) results (by_call call left later one).results (all later)
          (ap (λ (zs : List ℕ). h.wrote ++ zs) (f.1 ∙ (ap (λ (zs : List ℕ). zs ++ f.0) d.front.1 ∙ append_assoc d.wrote d.front.0 f.0)) ∙ sym (append_assoc h.wrote d.wrote (d.front.0 ++ f.0)))
          refl;
      whole = λ fault memory later.
          let lf : refusal ≢ LinkFault = λ is. fault (ap Refused is) in
          let lm : refusal ≢ NoMemory = λ is. memory (ap Refused is) in
          is-whole _ (h.wrote ++ d.wrote) later one.rest results (Refused refusal)
          (all later
          ∙ (ap (behind h.wrote results) (refused-is call left later one refusal (d.cause lf lm))
          ∙ (ap (λ (zs : List ℕ). conversed (h.wrote ++ zs) (results ++ []) (Refused refusal) later one.rest) (sym (d.whole lf lm))
          ∙ ap (λ (zs : List (List ℕ)). conversed (h.wrote ++ d.wrote) zs (Refused refusal) later one.rest) (append-nil results))));
      heard = λ unrefused. absurd (unrefused refusal refl);
    }

pub no-room : (tells : Bool) (given given' : List ℕ) (every left : List DueCall) (s : SessionState) (a b : Wire) (state : SessionState) (results : List (List ℕ)) → Held tells given given' every left s a b state results → ConferredOf tells given given' every s a b results (Refused NoMemory)
no-room tells given given' every left s a b state results h = record {
  took = h.took;
  wrote = h.wrote;
  drawn = h.drawn;
  octets = h.octets;
  went = h.went;
  draws = h.draws;
  front = λ later. is-front _ _ h.wrote _ results _ (h.goes later b.coming) refl refl;
  whole = λ fault memory. absurd (memory refl);
  heard = λ unrefused. absurd (unrefused NoMemory refl);
}

-- ---- the end

ends-finished : (s : SessionState) (draws stream : List ℕ) → confers [] s draws stream ≡ leaves Finished draws (destroys s stream)
unfolding confers
ends-finished s draws stream = refl

ends-spent : (call : DueCall) (left : List DueCall) (s : SessionState) (draws stream : List ℕ) → (s.number == 0x80000000) ≡ true → confers (call ∷ left) s draws stream ≡ leaves Spent draws (destroys s stream)
unfolding confers
ends-spent call left s draws stream e = rw e refl

destroyed-is : (later : List ℕ) (one : Said (Unit {0})) (refusal : ClientRefusal) (due : Parting) → one.answer ≡ Err refusal → leaves due later one ≡ conversed one.written [] (Refused refusal) later one.rest
destroyed-is later one refusal due e = ap (λ (answer : Result (Unit {0}) ClientRefusal). conversed one.written [] (parted due answer) later one.rest) e

leaving : (tells : Bool) (given given' : List ℕ) (every left : List DueCall) (s : SessionState) (a b c : Wire) (state : SessionState) (results : List (List ℕ)) (due parting : Parting)
    → ((later stream : List ℕ) → confers left state later stream ≡ leaves due later (destroys state stream)) → Held tells given given' every left s a b state results → Leaves state b c due parting
    → ConferredOf tells given given' every s a c results parting
leaving tells given given' every left s a b c state results due parting ends h (inl l) =
    let d : Done (destroys state) b c tt = l.0 in
    let all : (later : List ℕ) → confers every s (h.drawn ++ later) ((h.took ++ d.took) ++ c.coming) ≡ conversed (h.wrote ++ d.wrote) results parting later c.coming =
    λ later.
    ap (confers every s (h.drawn ++ later)) (append_assoc h.took d.took c.coming)
    ∙ (h.goes later (d.took ++ c.coming)
    ∙ (ap (behind h.wrote results) (ends later (d.took ++ c.coming) ∙ ap (leaves due later) (d.whole c.coming))
    ∙ (ap (λ (zs : List (List ℕ)). conversed (h.wrote ++ d.wrote) zs due later c.coming) (append-nil results)
    ∙ ap (λ (p : Parting). conversed (h.wrote ++ d.wrote) results p later c.coming) (sym l.1)))) in
    record {
      took = h.took ++ d.took;
      wrote = h.wrote ++ d.wrote;
      drawn = h.drawn;
      octets = h.octets;
      went = went-again h.went d.went;
      draws = h.draws;
      front = λ later. is-front _ _ (h.wrote ++ d.wrote) [] results [] (all later) (sym (append-nil (h.wrote ++ d.wrote))) (sym (append-nil results));
      whole = λ fault memory later. is-whole _ (h.wrote ++ d.wrote) later c.coming results parting (all later);
      heard = λ unrefused later. ap (λ (x : Conversed). x.rest) (all later);
    }
leaving tells given given' every left s a b c state results due parting ends h (inr l) =
    let refusal : ClientRefusal = l.0 in
    let d : Stopped (destroys state) b c refusal = l.2 in
    let one : Said (Unit {0}) = destroys state (d.took ++ c.coming) in
    let all : (later : List ℕ) → confers every s (h.drawn ++ later) ((h.took ++ d.took) ++ c.coming) ≡ behind h.wrote results (leaves due later one) =
    λ later.
    ap (confers every s (h.drawn ++ later)) (append_assoc h.took d.took c.coming)
    ∙ (h.goes later (d.took ++ c.coming) ∙ ap (behind h.wrote results) (ends later (d.took ++ c.coming))) in
    record {
      took = h.took ++ d.took;
      wrote = h.wrote ++ d.wrote;
      drawn = h.drawn;
      octets = h.octets;
      went = went-again h.went d.went;
      draws = h.draws;
      front = λ later.
          is-front _ _ (h.wrote ++ d.wrote) d.front.0 results [] (all later)
          (ap (λ (zs : List ℕ). h.wrote ++ zs) d.front.1 ∙ sym (append_assoc h.wrote d.wrote d.front.0))
          refl;
      whole = λ fault memory later.
          let lf : refusal ≢ LinkFault = λ is. fault (l.1 ∙ ap Refused is) in
          let lm : refusal ≢ NoMemory = λ is. memory (l.1 ∙ ap Refused is) in
          is-whole _ (h.wrote ++ d.wrote) later one.rest results parting
          (all later
          ∙ (ap (behind h.wrote results) (destroyed-is later one refusal due (d.cause lf lm))
          ∙ (ap (λ (zs : List ℕ). conversed (h.wrote ++ zs) (results ++ []) (Refused refusal) later one.rest) (sym (d.whole lf lm))
          ∙ (ap (λ (zs : List (List ℕ)). conversed (h.wrote ++ d.wrote) zs (Refused refusal) later one.rest) (append-nil results)
          ∙ ap (λ (p : Parting). conversed (h.wrote ++ d.wrote) results p later one.rest) (sym l.1)))));
      heard = λ unrefused. absurd (unrefused refusal l.1);
    }

pub all-called : (tells : Bool) (given given' : List ℕ) (every left : List DueCall) (s : SessionState) (a b c : Wire) (state : SessionState) (results : List (List ℕ)) (parting : Parting) → left ≡ [] → Held tells given given' every left s a b state results → Leaves state b c Finished parting → ConferredOf tells given given' every s a c results parting
all-called tells given given' every left s a b c state results parting none h l =
    leaving tells given given' every [] s a b c state results Finished parting (ends-finished state)
    (subst (λ (n : List DueCall). Held tells given given' every n s a b state results) none h) l

pub no-number : (tells : Bool) (given given' : List ℕ) (every : List DueCall) (call : DueCall) (left : List DueCall) (s : SessionState) (a b c : Wire) (state : SessionState) (results : List (List ℕ)) (parting : Parting) → (state.number == 0x80000000) ≡ true → Held tells given given' every (call ∷ left) s a b state results → Leaves state b c Spent parting → ConferredOf tells given given' every s a c results parting
no-number tells given given' every call left s a b c state results parting last h l =
    leaving tells given given' every (call ∷ left) s a b c state results Spent parting (λ later stream. ends-spent call left state later stream last) h l

-- ---- as the code has it

pub is-end : (s : SessionState) (number : ℕ) → number ≡ s.number → number ≡ 0x80000000 → (s.number == 0x80000000) ≡ true
is-end s number same e = let is : s.number ≡ 0x80000000 = sym same ∙ e in rw is refl

pub is-no-end : (s : SessionState) (number : ℕ) → number ≡ s.number → (number ≡ 0x80000000 → ⊥) → (s.number == 0x80000000) ≡ false
is-no-end s number same e = ne_eqb s.number 0x80000000 (λ is. e (same ∙ is))

-- the call that is due, with its number and its arguments as the code has them
pub by-due : (s : SessionState) (call : DueCall) (args confounder : List ℕ) (number : ℕ) (query : QuerySays) (a b : Wire) (value : SessionState × List ℕ) → number ≡ query.number → query ≡ call.query → args ≡ call.args → Done (calls s number args confounder) a b value
    → Done (calls s call.query.number call.args confounder) a b value
by-due s call args confounder number query a b value e p q d =
    subst (λ (zs : List ℕ). Done (calls s call.query.number zs confounder) a b value) q (subst (λ (n : ℕ). Done (calls s n args confounder) a b value) (e ∙ ap (λ (q : QuerySays). q.number) p) d)

pub by-due-refused : (s : SessionState) (call : DueCall) (args confounder : List ℕ) (number : ℕ) (query : QuerySays) (a b : Wire) (refusal : ClientRefusal) → number ≡ query.number → query ≡ call.query → args ≡ call.args → Stopped (calls s number args confounder) a b refusal
    → Stopped (calls s call.query.number call.args confounder) a b refusal
by-due-refused s call args confounder number query a b refusal e p q d =
    subst (λ (zs : List ℕ). Stopped (calls s call.query.number zs confounder) a b refusal) q (subst (λ (n : ℕ). Stopped (calls s n args confounder) a b refusal) (e ∙ ap (λ (q : QuerySays). q.number) p) d)

-- the calls from a place on are the one at it, and those behind it
at-place : {Q : Type 0} (due : List (DueOf Q)) (i : ℕ) (item : DueOf Q) → i < length due → item ≡ get_or due i item → drop i due ≡ item ∷ drop (i + 1) due
at-place {Q} due i item h e = rw (add-one, drop-cons due i item) (ap (λ (x : DueOf Q). x ∷ drop (suc i) due) (sym e))

pub next-due : {Q : Type 0} (says : Q → QuerySays) (due : List (DueOf Q)) (i : ℕ) (item : DueOf Q) → i < length due → item ≡ get_or due i item → calls_of says (drop i due) ≡ call_of says item ∷ calls_of says (drop (i + 1) due)
next-due says due i item h e = ap (calls_of says) (at-place due i item h e)

pub none-due : {Q : Type 0} (says : Q → QuerySays) (due : List (DueOf Q)) (i : ℕ) → length due ≤ i → calls_of says (drop i due) ≡ []
none-due says due i h = ap (calls_of says) (drop_all i due h)
