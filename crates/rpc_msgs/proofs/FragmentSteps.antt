-- Fragment after fragment of a record.
use Rattle.std.proofs.Common.{◌≡◌, ◌⊎◌, inl, inr, ℕ, ◌+◌, ◌%◌, ◌<◌, ◌≤◌, ◌^◌, lit<, Bool, IsTrue, true, false, List, [], ◌∷◌, ◌++◌, length, refl, ap, sym, ◌∙◌, subst, arith, Some, None, Result, Ok, Err}
use Rattle.std.proofs.lemmas.Bool.{cases_lt}
use Rattle.std.proofs.lemmas.Grind.{flat_map-append}
use Rattle.std.proofs.lemmas.List.{length-append, append-nil}
use Rattle.sec_base.specs.Link.{Wire}
use Rattle.rpc_msgs.specs.Words.{word}
use Rattle.rpc_msgs.specs.Records.{more_fragment, last_fragment, frames, joined, IsFront, IsWhole, IsPartial, TakesRecord}
use Rattle.sec_base.specs.Contents.{TakesContent}
use Rattle.sec_base.specs.declared.transfer.ContentRefusal.{ContentRefusal}
use Rattle.sec_base.specs.declared.transfer.ContentRefusal.TheVariants as contents
use Rattle.rpc_msgs.specs.Fragments.{Adds, Allows, Begins, Heads, TakesAnnounced, TakesFragment}
use Rattle.rpc_msgs.specs.declared.record.Fragment.{Fragment}
use Rattle.rpc_msgs.specs.declared.record.Fragment.TheVariants.{More, Last, End}
use Rattle.rpc_msgs.specs.declared.record.RecordRefusal.{RecordRefusal}
use Rattle.rpc_msgs.specs.declared.record.RecordRefusal.TheVariants.{LinkFault, TooLong, TooManyFragments, Torn, NoMemory}
use Rattle.sec_base.proofs.InARow.{taken-none, taken-again, taken-same}
use Rattle.rpc_msgs.proofs.WordLengths.{length-word}

pub frames-push : (earlier : List (List ℕ)) (part : List ℕ) → frames earlier ++ more_fragment part ≡ frames (earlier ++ part ∷ [])
frames-push earlier part =
    ap (λ (zs : List ℕ). frames earlier ++ zs) (sym (append-nil (more_fragment part))) ∙ sym (flat_map-append more_fragment earlier (part ∷ []))

pub joined-push : (earlier : List (List ℕ)) (part : List ℕ) → joined earlier ++ part ≡ joined (earlier ++ part ∷ [])
joined-push earlier part =
    ap (λ (zs : List ℕ). joined earlier ++ zs) (sym (append-nil part)) ∙ sym (flat_map-append (λ (octets : List ℕ). octets) earlier (part ∷ []))

pub begins-more : {told told' : Bool} {a b : Wire} (c : Wire) (n : ℕ) (xs ys part : List ℕ) → told' ≡ told → Begins told a b n xs → Adds told' b c xs ys part (more_fragment part) → Begins told a c (n + 1) ys
begins-more c n xs ys part same s t = record {
  earlier = s.earlier ++ part ∷ [];
  count = length-append s.earlier (part ∷ []) ∙ ap (λ (k : ℕ). k + 1) s.count;
  held = t.grown ∙ (ap (λ (zs : List ℕ). zs ++ part) s.held ∙ joined-push s.earlier part);
  took = taken-same (taken-again same s.took t.took) (frames-push s.earlier part);
}

pub takes-last : {told told' : Bool} {a b : Wire} (c : Wire) (n : ℕ) (xs ys part : List ℕ) → told' ≡ told → Begins told a b n xs → n < 64 → length ys ≤ 131072 → Adds told' b c xs ys part (last_fragment part) → TakesRecord told a c (Ok (Some ys))
takes-last c n xs ys part same s h size t =
    let held : ys ≡ joined s.earlier ++ part = t.grown ∙ ap (λ (zs : List ℕ). zs ++ part) s.held in (
      record { earlier = s.earlier; last = part },
      record { few = omega (arith, s.count); size = subst (λ (zs : List ℕ). length zs ≤ 131072) held size },
      held,
      taken-again same s.took t.took,
    )

frames-length : (earlier : List (List ℕ)) → length earlier ≤ length (frames earlier)
frames-length [] = omega arith
frames-length (part ∷ earlier) =
    let one : length (more_fragment part ++ frames earlier) ≡ 4 + length part + length (frames earlier) = simp (length-append, length-word) (omega arith) in
    omega (arith, one, frames-length earlier)

pub front-of : {told : Bool} {a b : Wire} (n : ℕ) (xs part : List ℕ) (s : Begins told a b n xs) → n ≤ 64 → length xs ≤ 131072 → IsPartial n (length xs) part → IsFront (frames s.earlier ++ part)
front-of n xs part s h size p = record {
  earlier = s.earlier;
  part = part;
  few = omega (arith, s.count);
  size = subst (λ (zs : List ℕ). length zs ≤ 131072) s.held size;
  partial = subst (λ (k : ℕ). IsPartial k (length (joined s.earlier)) part) (sym s.count) (subst (λ (zs : List ℕ). IsPartial n (length zs) part) s.held p);
  spelled = refl;
}

-- a header with all or some of the octets that it announces: a front of a record, or all of it
pub front-or-whole : {told : Bool} {a b : Wire} (n : ℕ) (xs part : List ℕ) (header : ℕ) (s : Begins told a b n xs) → n < 64 → length xs ≤ 131072 → header < 2 ^ 32 → length xs + header % 2 ^ 31 ≤ 131072 → length part ≤ header % 2 ^ 31 → IsFront (frames s.earlier ++ (word header ++ part)) ⊎ IsWhole (frames s.earlier ++ (word header ++ part))
front-or-whole n xs part header s few size bound fits most =
    elim (cases_lt (length part) (header % 2 ^ 31)) [
      | inl less ↦ inl (front-of n xs (word header ++ part) s (omega arith) size (inr (header, part, bound, few, fits, refl, less)))
      | inr all ↦ let same : length part ≡ header % 2 ^ 31 = omega arith in
          elim (cases_lt header (2 ^ 31)) [
            | inl more ↦ inl (record {
              earlier = s.earlier ++ part ∷ [];
              part = [];
              few = omega (arith, s.count, length-append s.earlier (part ∷ []));
              size = omega (arith, ap length s.held, ap length (sym (joined-push s.earlier part)), length-append (joined s.earlier) part);
              partial = inl (lit< tt);
              spelled = let is : header ≡ length part = omega arith in
                  ap (λ (k : ℕ). frames s.earlier ++ (word k ++ part)) is ∙ (frames-push s.earlier part ∙ sym (append-nil (frames (s.earlier ++ part ∷ []))));
            })
            | inr last ↦ inr (record {
              cut = record { earlier = s.earlier; last = part };
              is_record = record { few = omega (arith, s.count); size = omega (arith, ap length s.held, length-append (joined s.earlier) part) };
              spelled = let is : header ≡ 2 ^ 31 + length part = omega arith in ap (λ (k : ℕ). frames s.earlier ++ (word k ++ part)) is;
            })
          ]
    ]

pub takes-refusal : {told told' : Bool} {a b : Wire} (c : Wire) (n : ℕ) (xs ys : List ℕ) → told' ≡ told → Begins told a b n xs → n ≤ 64 → length xs ≤ 131072 → (refusal : RecordRefusal) → TakesFragment told' b c xs ys n (Err refusal) → TakesRecord told a c (Err refusal)
takes-refusal c n xs ys same s h size LinkFault t = (frames s.earlier ++ t.0, front-of n xs t.0 s h size t.1, taken-again same s.took t.2)
takes-refusal c n xs ys same s h size TooLong t = (
  frames s.earlier ++ word t.0,
  record {
    earlier = s.earlier;
    header = t.0;
    bound = t.2.bound;
    few = omega (arith, s.count);
    size = subst (λ (zs : List ℕ). length zs ≤ 131072) s.held size;
    announced = subst (λ (zs : List ℕ). 131072 < length zs + t.0 % 2 ^ 31) s.held t.1;
    spelled = refl;
  },
  taken-again same s.took t.2.took,
)
takes-refusal c n xs ys same s h size TooManyFragments t = (
  frames s.earlier ++ word t.0,
  record {
    earlier = s.earlier;
    header = t.0;
    bound = t.3.bound;
    full = s.count ∙ t.1;
    announced = subst (λ (zs : List ℕ). length zs + t.0 % 2 ^ 31 ≤ 131072) s.held t.2;
    spelled = refl;
  },
  taken-again same s.took t.3.took,
)
takes-refusal c n xs ys same s h size Torn t =
    let some : 0 < length (frames s.earlier ++ t.0) = omega (arith, t.2, s.count, frames-length s.earlier, length-append (frames s.earlier) t.0) in (
      frames s.earlier ++ t.0,
      record { front = front-of n xs t.0 s h size t.1; some = some },
      taken-again same s.took t.3,
      λ told. t.4 (subst (λ (b : Bool). IsTrue b) (sym same) told),
    )
takes-refusal c n xs ys same s h size NoMemory t = (frames s.earlier ++ (word t.0 ++ t.1), front-or-whole n xs t.1 t.0 s t.2 size t.3 t.4 t.5, taken-again same s.took t.6)

pub is-more : (told : Bool) (b c : Wire) (xs ys : List ℕ) (n : ℕ) (f : Fragment) → f ≡ More → TakesFragment told b c xs ys n (Ok f) → TakesFragment told b c xs ys n (Ok More)
is-more told b c xs ys n f e t = subst (λ (g : Fragment). TakesFragment told b c xs ys n (Ok g)) e t

pub is-last : (told : Bool) (b c : Wire) (xs ys : List ℕ) (n : ℕ) (f : Fragment) → f ≡ Last → TakesFragment told b c xs ys n (Ok f) → TakesFragment told b c xs ys n (Ok Last)
is-last told b c xs ys n f e t = subst (λ (g : Fragment). TakesFragment told b c xs ys n (Ok g)) e t

none-framed : (earlier : List (List ℕ)) → length earlier ≡ 0 → frames earlier ≡ []
none-framed [] e = refl
none-framed (part ∷ earlier) e = absurd (omega (arith, e))

-- the input ended before the first fragment
pub takes-end : {told told' : Bool} {a b : Wire} (c : Wire) (n : ℕ) (xs ys : List ℕ) (f : Fragment) → f ≡ End → told' ≡ told → Begins told a b n xs → TakesFragment told' b c xs ys n (Ok f) → TakesRecord told a c (Ok None)
takes-end c n xs ys More e same s t = absurd cc
takes-end c n xs ys Last e same s t = absurd cc
takes-end c n xs ys End e same s t = (
  taken-same (taken-again same s.took t.1) (append-nil (frames s.earlier) ∙ none-framed s.earlier (s.count ∙ t.0)),
  λ told. t.2 (subst (λ (b : Bool). IsTrue b) (sym same) told),
)

-- what the header of a last fragment announces was read
pub announced-last : (told : Bool) (a b : Wire) (xs ys : List ℕ) (n header : ℕ) → 2 ^ 31 ≤ header → header < 2 ^ 32 → (whole : Bool) → whole ≡ true → TakesContent told a b xs ys (header % 2 ^ 31) (Ok whole) → TakesAnnounced told a b xs ys n header (Ok Last)
announced-last told a b xs ys n header last bound true e t = (t.0, omega (arith, t.1), t.2)
announced-last told a b xs ys n header last bound false e t = absurd cc

-- the input ended inside what a header announces
pub announced-torn : (told : Bool) (a b : Wire) (xs ys : List ℕ) (n header : ℕ) → n < 64 → length xs + header % 2 ^ 31 ≤ 131072 → (whole : Bool) → whole ≡ false → TakesContent told a b xs ys (header % 2 ^ 31) (Ok whole) → TakesAnnounced told a b xs ys n header (Err Torn)
announced-torn told a b xs ys n header few fits true e t = absurd cc
announced-torn told a b xs ys n header few fits false e t = (t.0, few, fits, t.1, t.3.took, t.2)

-- what a header announces was not read, since the link failed
pub announced-fault : (told : Bool) (a b : Wire) (xs ys : List ℕ) (n header : ℕ) → n < 64 → length xs + header % 2 ^ 31 ≤ 131072 → (refusal : ContentRefusal) → refusal ≡ contents.LinkFault → TakesContent told a b xs ys (header % 2 ^ 31) (Err refusal) → TakesAnnounced told a b xs ys n header (Err LinkFault)
announced-fault told a b xs ys n header few fits contents.LinkFault e t = (t.0, few, fits, t.1, t.2)
announced-fault told a b xs ys n header few fits contents.NoMemory e t = absurd cc

-- what a header announces was not read for want of memory
pub announced-memory : (told : Bool) (a b : Wire) (xs ys : List ℕ) (n header : ℕ) → n < 64 → length xs + header % 2 ^ 31 ≤ 131072 → (refusal : ContentRefusal) → refusal ≡ contents.NoMemory → TakesContent told a b xs ys (header % 2 ^ 31) (Err refusal) → TakesAnnounced told a b xs ys n header (Err NoMemory)
announced-memory told a b xs ys n header few fits contents.LinkFault e t = absurd cc
announced-memory told a b xs ys n header few fits contents.NoMemory e t = (t.0, few, fits, t.1, t.2)

-- what a header announces may not come
pub announced-denied : (told : Bool) (a : Wire) (xs : List ℕ) (n held header : ℕ) (refusal : RecordRefusal) → held ≡ length xs → Allows n held (header % 2 ^ 31) (Err refusal) → TakesAnnounced told a a xs xs n header (Err refusal)
announced-denied told a xs n held header LinkFault e t = elim t [ ]
announced-denied told a xs n held header TooLong e t = (omega (arith, t, e), taken-none told a)
announced-denied told a xs n held header TooManyFragments e t = (t.0, omega (arith, t.1, e), taken-none told a)
announced-denied told a xs n held header Torn e t = elim t [ ]
announced-denied told a xs n held header NoMemory e t = elim t [ ]

-- a header was read, and then what it announces, or why that was not
pub after-header : {told told' : Bool} {a b : Wire} (c : Wire) (n header : ℕ) (xs ys : List ℕ) (r : Result Fragment RecordRefusal) → told' ≡ told → Heads told a b header → TakesAnnounced told' b c xs ys n header r → TakesFragment told a c xs ys n r
after-header c n header xs ys (Ok More) same h t = (t.0, record { grown = t.2.grown; took = taken-same (taken-again same h.took t.2.took) (ap (λ (k : ℕ). word k ++ t.0) t.1) })
after-header c n header xs ys (Ok Last) same h t = (t.0, record { grown = t.2.grown; took = taken-same (taken-again same h.took t.2.took) (ap (λ (k : ℕ). word k ++ t.0) t.1) })
after-header c n header xs ys (Ok End) same h t = elim t [ ]
after-header c n header xs ys (Err LinkFault) same h t = (word header ++ t.0, inr (header, t.0, h.bound, t.1, t.2, refl, t.3), taken-again same h.took t.4)
after-header c n header xs ys (Err TooLong) same h t = (header, t.0, record { bound = h.bound; took = taken-same (taken-again same h.took t.1) (append-nil (word header)) })
after-header c n header xs ys (Err TooManyFragments) same h t = (header, t.0, t.1, record { bound = h.bound; took = taken-same (taken-again same h.took t.2) (append-nil (word header)) })
after-header c n header xs ys (Err Torn) same h t = (
  word header ++ t.0,
  inr (header, t.0, h.bound, t.1, t.2, refl, t.3),
  omega (arith, length-append (word header) t.0, length-word header),
  taken-again same h.took t.4,
  λ told. t.5 (subst (λ (b : Bool). IsTrue b) (sym same) told),
)
after-header c n header xs ys (Err NoMemory) same h t = (header, t.0, t.1, h.bound, t.2, t.3, taken-again same h.took t.4)
