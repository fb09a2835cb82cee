-- Call after call of a generator.
use Rattle.std.proofs.Common.{◌≡◌, ◌<◌, ◌≤◌, ◌+◌, ◌-◌, ℕ, suc, List, [], ◌∷◌, ◌++◌, refl, ap, sym, ◌∙◌, append_assoc, arith}
use Rattle.std.proofs.lemmas.List.{append-nil}
use Rattle.gss_client.specs.Conferring.{DueCall, DueOf, call_of, calls_of}
use Rattle.posts_client.specs.Procedure.{query_of}
use Rattle.posts_client.specs.declared.procedure.Procedure.{Procedure}
use Rattle.drill_command.specs.Calls.{drawn_call, calls_from, after_calls}

pub calls-more : (front : List DueCall) (n i x : ℕ) (all : List DueCall) → i < n → front ++ calls_from (n - i) x ≡ all → (front ++ (drawn_call x).call ∷ []) ++ calls_from (n - (i + 1)) (drawn_call x).next ≡ all
calls-more front n i x all h e =
    let s : n - i ≡ suc (n - (i + 1)) = omega (arith, h) in
    append_assoc front ((drawn_call x).call ∷ []) (calls_from (n - (i + 1)) (drawn_call x).next) ∙ (rw s at e)

-- the same of calls as they lie in memory, one of which was added
calls-added : (items : List (DueOf Procedure)) (one : DueOf Procedure) → calls_of query_of (items ++ one ∷ []) ≡ calls_of query_of items ++ call_of query_of one ∷ []
calls-added [] one = refl
calls-added (item ∷ items) one = ap (λ (cs : List DueCall). call_of query_of item ∷ cs) (calls-added items one)

pub called-more : (items new : List (DueOf Procedure)) (one : DueOf Procedure) (n i x y : ℕ) (all : List DueCall) → i < n → new ≡ items ++ one ∷ [] → call_of query_of one ≡ (drawn_call x).call → y ≡ (drawn_call x).next → calls_of query_of items ++ calls_from (n - i) x ≡ all → calls_of query_of new ++ calls_from (n - (i + 1)) y ≡ all
called-more items new one n i x y all h added drawn next e =
    let is : calls_of query_of new ≡ calls_of query_of items ++ (drawn_call x).call ∷ [] = ap (calls_of query_of) added ∙ (calls-added items one ∙ ap (λ (c : DueCall). calls_of query_of items ++ c ∷ []) drawn) in
    rw (is, next) (calls-more (calls_of query_of items) n i x all h e)

pub calls-done : (front : List DueCall) (n i x : ℕ) (all : List DueCall) → n ≤ i → front ++ calls_from (n - i) x ≡ all → front ≡ all
calls-done front n i x all h e = let z : n - i ≡ 0 = omega (arith, h) in sym (append-nil front) ∙ (rw z at e)

pub after_calls-more : (n i x y : ℕ) → i < n → after_calls (n - i) x ≡ y → after_calls (n - (i + 1)) (drawn_call x).next ≡ y
after_calls-more n i x y h e = let s : n - i ≡ suc (n - (i + 1)) = omega (arith, h) in rw s at e

pub after_calls-done : (n i x y : ℕ) → n ≤ i → after_calls (n - i) x ≡ y → x ≡ y
after_calls-done n i x y h e = let z : n - i ≡ 0 = omega (arith, h) in rw z at e
