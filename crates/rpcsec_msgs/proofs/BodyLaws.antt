-- Bodies are read as they are spelled.
use Rattle.std.proofs.Common.{◌≡◌, ℕ, ◌≤◌, lit<, List, [], ◌∷◌, ◌++◌, length, Result, Ok, Err, refl, sym, ap, subst, ◌∙◌, arith, eqb, append-nil, IfOk}
use Rattle.std.proofs.lemmas.Bool.{eqb-true}
use Rattle.std.specs.Borrow.{Bor}
use Rattle.rpc_msgs.specs.Words.{opaque}
use Rattle.rpc_msgs.specs.Xdr.{Input, Answers, whole, place, refusal, opaque_at, end_at}
use Rattle.rpc_msgs.specs.declared.xdr_reader.XdrRefusal.{XdrRefusal}
use Rattle.rpc_msgs.specs.declared.xdr_reader.XdrWhy.TheVariants.{TooLong}
use Rattle.rpc_msgs.proofs.XdrLaws.{AreOctets, Law, bind_ok, refused_else, ok_is, opaque_law}
use Rattle.rpcsec_msgs.specs.Bodies.{checked_octets, checked_at, sealed_at, IsLong}

none : (xs : List ℕ) → length xs ≡ 0 → xs ≡ []
none [] e = refl
none (x ∷ xs) e = absurd (omega arith)

-- nothing was left
pub end-found : (i : Input) (t : Unit {0}) → end_at i ≡ Ok t → i.octets ≡ []
unfolding end_at
end-found i t e =
    let k = refused_else (eqb (length i.octets) 0) (refusal TooLong (place i)) (Ok tt) t e in
    none i.octets (eqb-true (length i.octets) 0 k.0)

pub end-only : (end : ℕ) → end_at (record { octets = []; end = end }) ≡ Ok tt
unfolding end_at
end-only end = refl

-- octets of any length that a word can tell
pub any_law : Law (opaque_at 4294967295) opaque (λ v. length v ≤ 4294967295)
any_law = opaque_law 4294967295 (lit< tt)

pub sealed-found : (octets v : List ℕ) → AreOctets octets → sealed_at octets ≡ Ok v → IsLong v × (octets ≡ opaque v)
unfolding sealed_at
sealed-found octets v all e =
    let b = bind_ok (opaque_at 4294967295 (whole octets)) _ v e in
    let t = any_law.found (whole octets) b.0.1 b.0.0 all b.1 in
    let c = bind_ok (end_at b.0.1) _ v b.2 in
    let done = end-found b.0.1 c.0 c.1 in
    let is : b.0.0 ≡ v = ok_is {E = XdrRefusal} b.0.0 v c.2 in (
      subst (λ (x : List ℕ). length x ≤ 4294967295) is t.has,
      t.same ∙ (ap (λ (zs : List ℕ). opaque b.0.0 ++ zs) done ∙ (append-nil (opaque b.0.0) ∙ ap opaque is)),
    )

pub sealed-only : (v : List ℕ) → IsLong v → sealed_at (opaque v) ≡ Ok v
unfolding sealed_at
sealed-only v h =
    let end : ℕ = length (opaque v) in
    let read : opaque_at 4294967295 (record { octets = opaque v; end = end }) ≡ Ok (v, record { octets = []; end = end }) =
    ap (λ (zs : List ℕ). opaque_at 4294967295 (record { octets = zs; end = end })) (sym (append-nil (opaque v))) ∙ any_law.only v [] end h in
    rw (read, end-only end) refl

pub checked-found : (octets body tag : List ℕ) → AreOctets octets → checked_at octets ≡ Ok (body, tag)
    → IsLong body × IsLong tag × (octets ≡ checked_octets body tag)
unfolding checked_at
checked-found octets body tag all e =
    let b = bind_ok (opaque_at 4294967295 (whole octets)) _ (body, tag) e in
    let t = any_law.found (whole octets) b.0.1 b.0.0 all b.1 in
    let c = bind_ok (opaque_at 4294967295 b.0.1) _ (body, tag) b.2 in
    let u = any_law.found b.0.1 c.0.1 c.0.0 t.left c.1 in
    let d = bind_ok (end_at c.0.1) _ (body, tag) c.2 in
    let done = end-found c.0.1 d.0 d.1 in
    let is = ok_is {E = XdrRefusal} (b.0.0, c.0.0) (body, tag) d.2 in
    let first : b.0.0 ≡ body = ap (λ p. p.0) is in
    let second : c.0.0 ≡ tag = ap (λ p. p.1) is in (
      subst (λ (x : List ℕ). length x ≤ 4294967295) first t.has,
      subst (λ (x : List ℕ). length x ≤ 4294967295) second u.has,
      t.same ∙ (ap (λ (zs : List ℕ). opaque b.0.0 ++ zs) (u.same ∙ (ap (λ (zs : List ℕ). opaque c.0.0 ++ zs) done ∙ append-nil (opaque c.0.0)))
          ∙ (ap (λ (x : List ℕ). opaque x ++ opaque c.0.0) first ∙ ap (λ (x : List ℕ). opaque body ++ opaque x) second)),
    )

pub checked-only : (body tag : List ℕ) → IsLong body → IsLong tag → checked_at (checked_octets body tag) ≡ Ok (body, tag)
unfolding checked_at
checked-only body tag h k =
    let end : ℕ = length (checked_octets body tag) in
    let read : opaque_at 4294967295 (record { octets = opaque tag; end = end }) ≡ Ok (tag, record { octets = []; end = end }) =
    ap (λ (zs : List ℕ). opaque_at 4294967295 (record { octets = zs; end = end })) (sym (append-nil (opaque tag))) ∙ any_law.only tag [] end k in
    rw (any_law.only body (opaque tag) end h, read, end-only end) refl

pub sealed-spelled : (octets : List ℕ) (result : Result (Bor (List ℕ)) XdrRefusal) → AreOctets octets → Answers (λ t. t.now) result (sealed_at octets)
    → IfOk result (λ t. octets ≡ opaque t.now)
sealed-spelled octets (Ok t) all e = (sealed-found octets t.now all e).1
sealed-spelled octets (Err e) all r = tt

pub checked-spelled : (octets : List ℕ) (result : Result (Bor (List ℕ) × Bor (List ℕ)) XdrRefusal) → AreOctets octets
    → Answers (λ p. (p.0.now, p.1.now)) result (checked_at octets) → IfOk result (λ p. octets ≡ checked_octets p.0.now p.1.now)
checked-spelled octets (Ok p) all e = (checked-found octets p.0.now p.1.now all e).2
checked-spelled octets (Err e) all r = tt
