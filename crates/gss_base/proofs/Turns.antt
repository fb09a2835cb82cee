-- The signs of a text are read octet by octet.
use Rattle.std.proofs.Common.{◌<◌, ◌≤◌, Vec, subst, refl, ◌≡◌, ℕ, ◌+◌, Bool, true, false, List, [], ◌∷◌, Some, None, Result, Ok, Err, ap, ◌∙◌, sym, arith}
use Rattle.std.proofs.lemmas.Grind.{common_steps}
use Rattle.std.proofs.lemmas.List.{append-nil}
use Rattle.gss_base.proofs.Naming.{with_front}
use Rattle.gss_base.specs.Signs.{signs_of, with_sign, turn_of, realm_behind, fault_at, AreSigns}
use Rattle.std.specs.Result.{IsErrAnd}
use Rattle.gss_base.specs.declared.principal.NameRefusal.{NameRefusal}
use Rattle.gss_base.specs.declared.principal.NameRefusal.TheVariants.{NoMemory}
use Rattle.gss_base.specs.declared.principal.Sign.{Sign}
use Rattle.gss_base.specs.declared.principal.Turn.TheVariants.{Stands, Quotes, Faulty}

-- an octet stands for a sign
pub sign-turn : (quotes realm : Bool) (at octet : ℕ) (rest : List ℕ) (sign : Sign) → turn_of quotes realm at octet ≡ Stands sign
    → signs_of quotes realm at (octet ∷ rest) ≡ with_sign sign (signs_of false (realm_behind realm sign) (at + 1) rest)
sign-turn true realm at octet rest sign e = grind (arith, common_steps)
sign-turn false realm at octet rest sign e = grind (arith, common_steps)

-- an octet quotes the next
pub quotes-turn : (quotes realm : Bool) (at octet : ℕ) (rest : List ℕ) → turn_of quotes realm at octet ≡ Quotes
    → signs_of quotes realm at (octet ∷ rest) ≡ signs_of true realm (at + 1) rest
quotes-turn true realm at octet rest e = grind (arith, common_steps)
quotes-turn false realm at octet rest e = grind (arith, common_steps)

refused-turn : (quotes realm : Bool) (at octet : ℕ) (rest : List ℕ) (place : ℕ) → turn_of quotes realm at octet ≡ Faulty place → signs_of quotes realm at (octet ∷ rest) ≡ Err place
refused-turn true realm at octet rest place e = grind (arith, common_steps)
refused-turn false realm at octet rest place e = grind (arith, common_steps)

-- the text is refused at an octet
pub refused : (front : List Sign) (quotes realm : Bool) (at octet : ℕ) (left rest : List ℕ) (whole : Result (List Sign) ℕ) (place : ℕ) → with_front front (signs_of quotes realm at left) ≡ whole
    → with_front front (signs_of quotes realm at left) ≡ with_front front (signs_of quotes realm at (octet ∷ rest)) → turn_of quotes realm at octet ≡ Faulty place → whole ≡ Err place
refused front quotes realm at octet left rest whole place read here e = sym read ∙ (here ∙ ap (with_front front) (refused-turn quotes realm at octet rest place e))

-- the text may not end here
pub refused_end : (front : List Sign) (quotes realm : Bool) (at place : ℕ) → fault_at quotes realm at ≡ Some place → with_front front (signs_of quotes realm at []) ≡ Err place
refused_end front true realm at place e = cc
refused_end front false true at place e = cc
refused_end front false false at place e = cc

-- the text ends here
pub read_whole : (front : List Sign) (quotes realm : Bool) (at : ℕ) → fault_at quotes realm at ≡ None → with_front front (signs_of quotes realm at []) ≡ Ok front
read_whole front true realm at e = cc
read_whole front false true at e = ap Ok (append-nil front)
read_whole front false false at e = cc

-- no sign was read
pub with_front-nil : (r : Result (List Sign) ℕ) → with_front [] r ≡ r
with_front-nil (Ok signs) = refl
with_front-nil (Err at) = refl

pub no_memory : {A : Type 0} (r : Result (Vec Sign A) NameRefusal) (answer : Result (List Sign) ℕ) → IsErrAnd r (λ e. e ≡ NoMemory) → AreSigns r answer
no_memory {A} (Ok signs) answer h = absurd h
no_memory {A} (Err e) answer h = subst (λ (e : NameRefusal). AreSigns {A = A} (Err e) answer) (sym h) tt

-- a place behind another
pub behind_one : (at : ℕ) → 0 < at + 1
behind_one at = omega arith

pub same_place : (at end : ℕ) → at ≤ end → end ≤ at → at ≡ end
same_place at end within past = omega arith
