-- What was sealed opens again.
use Rattle.std.proofs.Common.{◌≡◌, ℕ, zero, suc, ◌<◌, List, [], ◌∷◌, ◌++◌, length, get_or, refl}
use Rattle.krb_derive.specs.declared.key.Key.{Key}
use Rattle.krb_derive.specs.declared.sealing.SealKeys.{SealKeys}
use Rattle.krb_derive.specs.Kept.{ForSealing}
use Rattle.krb_derive.specs.Sealing.{seal_of}
use Rattle.krb_derive.proofs.Opened.{kept_opens}
use Rattle.ap_exchange.specs.Keys.{SealedOpens}

octets_of_both : (xs ys : List ℕ) → ((i : ℕ) → get_or xs i 0 < 256) → ((i : ℕ) → get_or ys i 0 < 256) → (i : ℕ) → get_or (xs ++ ys) i 0 < 256
octets_of_both [] ys hx hy i = hy i
octets_of_both (x ∷ xs) ys hx hy zero = hx zero
octets_of_both (x ∷ xs) ys hx hy (suc i) = octets_of_both xs ys (λ j. hx (suc j)) hy i

pub sealed_opens : (kept : SealKeys) (key : Key) (usage : ℕ) (confounder octets : List ℕ) → ForSealing kept key usage → length confounder ≡ 16 → ((i : ℕ) → get_or confounder i 0 < 256) → ((i : ℕ) → get_or octets i 0 < 256) → SealedOpens key usage confounder octets
sealed_opens kept key usage confounder octets for long c o = record {
  opens = kept_opens kept key usage confounder octets (seal_of key usage confounder octets) for long (octets_of_both confounder octets c o) refl;
}
