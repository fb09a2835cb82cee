-- The states of Kerberos and SCRAM, token by token.
use Rattle.std.proofs.Common.{rules, ap, ◌∙◌, ◌≡◌, List, [], ◌∷◌, ◌++◌, ℕ, Option, Some, None, Result, Ok, Err}
use Rattle.std.specs.Prelude.{IfOk}
use Rattle.std.specs.Option.{option_zip}
use Rattle.std.specs.Result.{result_ok}
use Rattle.spnego_core.specs.MechStates.{InitMech}
use Rattle.spnego_core.specs.declared.refusal.MechRefusal.{MechRefusal}
use Rattle.spnego_core.specs.declared.setup.MechCred.{MechCred}
use Rattle.spnego_core.specs.InitMech.{MechBegun, begun_with}
use Rattle.mech_objects.specs.declared.ask.MechAsk.{MechAsk}
use Rattle.mech_objects.specs.Standard.{begun, state_begun, state_of, state_after, state_after_all}
use Rattle.mech_objects.specs.Standard.{state_by}

-- one more token
pub after_more : (state : Option InitMech) (taken : List (List ℕ)) (token : List ℕ)
    → state_after_all state (taken ++ token ∷ []) ≡ state_after (state_after_all state taken) token
after_more state [] token = search rules
after_more state (first ∷ rest) token =
    search (rules, after_more (state_after state first) rest token)

-- the same by a credential and what was asked
pub of_more : (cred : MechCred) (ask : MechAsk) (taken : List (List ℕ)) (token : List ℕ)
    → state_of cred ask (taken ++ token ∷ []) ≡ state_after (state_of cred ask taken) token
unfolding state_of
of_more cred ask taken token = after_more (state_begun (begun cred ask)) taken token

-- the same of an object
pub by_more : (cred : Option MechCred) (ask : Option MechAsk) (taken : List (List ℕ)) (token : List ℕ)
    → state_by cred ask (taken ++ token ∷ []) ≡ state_after (state_by cred ask taken) token
by_more None ask taken token = search rules
by_more (Some cred) None taken token = search rules
by_more (Some cred) (Some ask) taken token = of_more cred ask taken token

-- the state of what was begun
pub begun_state : (made : Result MechBegun MechRefusal) (state : InitMech) (token : List ℕ)
    → begun_with made ≡ Ok (state, token) → Some state ≡ state_begun made
begun_state (Ok made) state token e = search (rules, e)
begun_state (Err refusal) state token e = search (rules, e)

-- the state of an object that started
pub begun_by : (cred : Option MechCred) (own : MechCred) (ask : MechAsk) (state : InitMech) (token : List ℕ)
    → cred ≡ Some own → begun_with (begun own ask) ≡ Ok (state, token)
    → Some state ≡ state_by cred (Some ask) []
unfolding state_of
begun_by None own ask state token is_own e = search (rules, is_own)
begun_by (Some cred) own ask state token is_own e =
    search (rules, is_own, begun_state (begun own ask) state token e)

-- what a copy beside something else is a copy of
pub zipped : {A B E : Type 0} (a : Option A) (r : Result B E) (x : A) (y z : B)
    → option_zip a (result_ok r) ≡ Some (x, y) → IfOk r (λ w. w ≡ z) → y ≡ z
zipped None r x y z e copied = absurd cc
zipped (Some v) (Err refusal) x y z e copied = absurd cc
zipped {A} {B} (Some v) (Ok w) x y z e copied =
    let pair : (x, y) ≡ (v, w) = cc in
    ap (λ (p : A × B). p.1) pair ∙ copied
