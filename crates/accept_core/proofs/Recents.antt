-- The newest four entries of a log.
use Rattle.std.proofs.Common.{◌≡◌, ℕ, zero, suc, ◌+◌, ◌-◌, ◌<◌, ◌≤◌, List, [], ◌∷◌, ◌++◌, length, take, drop, reverse, Some, refl, sym, ◌∙◌, ap, subst, arith}
use Rattle.std.specs.Prelude.{get_or, Option, None, IfSome, is_some, if◌then◌else◌, Vec, vec_capacity}
use Rattle.std.specs.Option.{option_map}
use Rattle.std.specs.Global.{Global}
use Rattle.std.proofs.lemmas.List.{length-append}
use Rattle.accept_core.specs.declared.entry.Entry.{Entry}
use Rattle.accept_core.specs.Entering.{gained}
use Rattle.sha1.specs.Sha1.{sha1}
use Rattle.accept_core.specs.Chains.{text_of, digest_of}
use Rattle.accept_core.specs.Logs.{Begins, IsLog}
use Rattle.accept_core.proofs.Steps.{added, gained-more}

pub begins-none : (n : ℕ) (last : List Entry) → Begins n [] last
begins-none zero last = tt
begins-none (suc n) last = tt

-- fewer of them
begins-fewer : (n : ℕ) (h last : List Entry) → Begins (suc n) h last → Begins n h last
begins-fewer zero h last b = tt
begins-fewer (suc n) [] last b = tt
begins-fewer (suc n) (e ∷ h) [] b = absurd b
begins-fewer (suc n) (e ∷ h) (x ∷ last) b = (b.0, begins-fewer n h last b.1)

begins-take : (n : ℕ) (h last : List Entry) → Begins n h last → Begins n h (take n last)
begins-take zero h last b = tt
begins-take (suc n) [] last b = tt
begins-take (suc n) (e ∷ h) [] b = absurd b
begins-take (suc n) (e ∷ h) (x ∷ last) b = (b.0, begins-take n h last b.1)

-- one more
pub begins-more : (h last : List Entry) (entry : Entry) → Begins 4 h last → Begins 4 (entry ∷ h) (entry ∷ take 3 last)
begins-more h last entry b = (refl, begins-take 3 h last (begins-fewer 3 h last b))

pub begins-added : (entries last : List Entry) (entry : Entry) → Begins 4 (reverse entries) last → Begins 4 (reverse (entries ++ entry ∷ [])) (entry ∷ take 3 last)
begins-added entries last entry b = subst (λ (h : List Entry). Begins 4 h (entry ∷ take 3 last)) (sym (added entries entry)) (begins-more (reverse entries) last entry b)

-- the history before the newest ones
pub drop-step : (k n : ℕ) (h last : List Entry) (d : Entry) → Begins n h last → k < n → k < length h → drop k h ≡ get_or last k d ∷ drop (suc k) h
drop-step k zero h last d b few less = absurd (omega (arith, few))
drop-step k (suc n) [] last d b few less = absurd (omega (arith, less))
drop-step k (suc n) (e ∷ h) [] d b few less = absurd b
drop-step zero (suc n) (e ∷ h) (x ∷ last) d b few less = ap (λ (y : Entry). y ∷ h) (sym b.0)
drop-step (suc k) (suc n) (e ∷ h) (x ∷ last) d b few less = drop-step k n h last d b.1 (omega (arith, few)) (omega (arith, less))

drop-length : (k : ℕ) (h : List Entry) → length (drop k h) ≡ length h - k
drop-length zero h = omega arith
drop-length (suc k) [] = omega arith
drop-length (suc k) (e ∷ h) = let d = drop-length k h in omega (arith, d)

pub gained-next : (from end place i j k : ℕ) (h last : List Entry) (d : Entry) → Begins 4 h last → length h ≡ end → from ≤ place → place < end → end ≤ from + 4
    → i ≡ end - (place + 1) → j ≡ end - place → k ≡ end - 1 - place
    → gained from (drop i h) ≡ gained from (drop j h) ++ (record { place = place; entry = get_or last k d }) ∷ []
gained-next from end place i j k h last d b count low less few i-is j-is k-is =
    let step = drop-step k 4 h last d b (omega (arith, count, low, less, few, k-is)) (omega (arith, count, less, k-is)) in
    let same : i ≡ k = omega (arith, i-is, k-is) in
    let next : j ≡ suc k = omega (arith, j-is, k-is, less) in
    let long : length (drop (suc k) h) ≡ place = drop-length (suc k) h ∙ omega (arith, count, less, k-is) in
    ap (λ (n : ℕ). gained from (drop n h)) same ∙ (ap (gained from) step ∙ (gained-more from (drop (suc k) h) (get_or last k d) (omega (arith, long, low))
    ∙ (ap (λ (p : ℕ). gained from (drop (suc k) h) ++ (record { place = p; entry = get_or last k d }) ∷ []) long
    ∙ ap (λ (n : ℕ). gained from (drop n h) ++ (record { place = place; entry = get_or last k d }) ∷ []) (sym next))))

pub gained-first : (from end : ℕ) (h : List Entry) → length h ≡ end → from ≤ end → length (drop (end - from) h) ≡ from
gained-first from end h count low = drop-length (end - from) h ∙ omega (arith, count, low)

-- the digest of one entry more
digest-added : (before after : Option (List ℕ)) (entries more : List Entry) (entry : Entry) → reverse more ≡ entry ∷ reverse entries → after ≡ option_map (λ d. sha1 (text_of d entry)) before
    → IfSome before (λ d. d ≡ digest_of (reverse entries)) → IfSome after (λ d. d ≡ digest_of (reverse more))
digest-added None after entries more entry newest is committed = rw is tt
digest-added (Some d) after entries more entry newest is committed = rw is (ap (λ (x : List ℕ). sha1 (text_of x entry)) committed ∙ ap digest_of (sym newest))

-- the digest that is kept
pub digest-kept : (digest : Option (List ℕ)) (entries : List Entry) → IfSome digest (λ d. d ≡ digest_of (reverse entries)) → digest ≡ (if is_some digest then Some (digest_of (reverse entries)) else None)
digest-kept None entries committed = refl
digest-kept (Some d) entries committed = ap (λ (x : List ℕ). Some x) committed

-- a log with one entry more
pub log-added : (limit count : ℕ) (digest digest-after : Option (List ℕ)) (last after : List Entry) (kept keeps : Option (Vec Entry Global)) (entries more : List Entry) (entry : Entry)
    → IsLog limit count digest last kept entries → length entries < limit → more ≡ entries ++ entry ∷ [] → digest-after ≡ option_map (λ d. sha1 (text_of d entry)) digest → after ≡ entry ∷ take 3 last
    → IfSome keeps (λ v. v.items ≡ more) → IfSome keeps (λ v. limit ≤ vec_capacity v) → IsLog limit (count + 1) digest-after after keeps more
log-added limit count digest digest-after last after kept keeps entries more entry log less more-is digest-is after-is all room =
    let long : length more ≡ length entries + 1 = ap (λ (l : List Entry). length l) more-is ∙ length-append entries (entry ∷ []) in
    let newest : reverse more ≡ entry ∷ reverse entries = ap (λ (l : List Entry). reverse l) more-is ∙ added entries entry in
    record {
      counted = let k = log.counted in omega (arith, k, long);
      few = omega (arith, less, long);
      small = log.small;
      committed = digest-added digest digest-after entries more entry newest digest-is log.committed;
      recent = subst (λ (l : List Entry). Begins 4 (reverse more) l) (sym after-is) (subst (λ (l : List Entry). Begins 4 (reverse l) (entry ∷ take 3 last)) (sym more-is) (begins-added entries last entry log.recent));
      all = all;
      room = room;
    }
