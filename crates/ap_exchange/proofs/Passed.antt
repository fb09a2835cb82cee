-- What follows from a step that didn't refuse, and names that are the same.
use Rattle.std.proofs.Common.{◌≡◌, ℕ, Bool, true, false, cond, List, Option, Some, None, Result, Ok, Err, refl, subst}
use Rattle.std.specs.Prelude.{nat_eq}
use lib.Pointwise.{pointwise, pointwise_decides, bytes_decides}
use Rattle.gss_base.specs.Name.{Name}
use Rattle.gss_base.specs.SameName.{same_name}
use Rattle.der_core.specs.declared.refusal.DerRefusal.{DerRefusal}
use Rattle.der_core.proofs.Steps.{both}
use Rattle.krb_derive.specs.declared.sealing.OpenRefusal.{OpenRefusal}
use Rattle.ap_exchange.specs.declared.refusal.Part.{Part}
use Rattle.ap_exchange.specs.declared.refusal.ApRefusal.{ApRefusal}
use Rattle.ap_exchange.specs.Steps.{◌>>=◌, der_in, or_refuse, due}
use Rattle.ap_exchange.specs.Keys.{opened_or}

pub bind_ok : {A B : Type 0} (r : Result A ApRefusal) (f : A → Result B ApRefusal) (y : B) → (r >>= f) ≡ Ok y → (x : A) × (r ≡ Ok x) × (f x ≡ Ok y)
bind_ok (Ok x) f y e = (x, refl, e)
bind_ok (Err d) f y e = absurd cc

pub due_ok : (refusal : ApRefusal) (b : Bool) (u : Unit {0}) → due refusal b ≡ Ok u → b ≡ true
due_ok refusal true u e = refl
due_ok refusal false u e = absurd cc

pub or_ok : {A : Type 0} (refusal : ApRefusal) (o : Option A) (v : A) → or_refuse refusal o ≡ Ok v → o ≡ Some v
or_ok refusal (Some w) v e = cc
or_ok refusal None v e = absurd cc

pub der_ok : {A : Type 0} (part : Part) (r : Result A DerRefusal) (v : A) → der_in part r ≡ Ok v → r ≡ Ok v
der_ok part (Ok w) v e = cc
der_ok part (Err d) v e = absurd cc

pub opened_ok : (refusal : ApRefusal) (r : Result (List ℕ) OpenRefusal) (v : List ℕ) → opened_or refusal r ≡ Ok v → r ≡ Ok v
opened_ok refusal (Ok w) v e = cc
opened_ok refusal (Err d) v e = absurd cc

pub if_ok : {A : Type 0} (b : Bool) (r : Result A ApRefusal) (refusal : ApRefusal) (v : A) → cond b r (Err refusal) ≡ Ok v → r ≡ Ok v
if_ok true r refusal v e = e
if_ok false r refusal v e = absurd cc

abbrev done : {A : Type 0} → A → Result A ApRefusal
done x = Ok x

pub ok_is : {A : Type 0} (x y : A) → done x ≡ done y → x ≡ y
ok_is x y e = cc

pub same_is : (a b : Name) → same_name a b ≡ true → a ≡ b
same_is a b e =
    let two = both (pointwise nat_eq a.realm b.realm) (pointwise (pointwise nat_eq) a.parts b.parts) e in
    let realms : a.realm ≡ b.realm = (bytes_decides a.realm b.realm).0 two.0 in
    let rows : a.parts ≡ b.parts = (pointwise_decides bytes_decides a.parts b.parts).0 two.1 in
    λ i. record { realm = realms i; parts = rows i }

pub same_own : (a b : Name) → a ≡ b → same_name a b ≡ true
same_own a b e = subst (λ (n : Name). same_name a n ≡ true) e (rw ((bytes_decides a.realm a.realm).1 refl, (pointwise_decides bytes_decides a.parts a.parts).1 refl) refl)
