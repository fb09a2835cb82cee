-- A keytab is read as its grammar spells it.
use Rattle.std.proofs.Common.{◌≡◌, ℕ, zero, suc, ◌-◌, ◌^◌, ◌<◌, ◌≤◌, Bool, true, false, cond, ◌==◌, ◌⊎◌, inl, inr, List, [], ◌∷◌, ◌++◌, length, Option, Result, Ok, nat_lt, refl, sym, ap, subst, ◌∙◌, arith, append_assoc, length-append}
use Rattle.gss_base.specs.Name.{Name}
use Rattle.krb_derive.specs.declared.key.Key.{Key}
use Rattle.krb_files.specs.declared.refusal.FileRefusal.{FileRefusal}
use Rattle.krb_files.specs.declared.keytab.Entry.{Entry}
use Rattle.krb_files.specs.declared.pieces.Next.{Next}
use Rattle.krb_files.specs.declared.pieces.Next.TheVariants.{End, Other, Item}
use Rattle.krb_files.specs.declared.fields.Bounds.TheVariants.{File, Record}
use Rattle.krb_files.specs.Fields.{Input, ◌>>=◌, place, octets_at, number_at, record_at, passed_at, magic_at}
use Rattle.krb_files.specs.Names.{principal_at}
use Rattle.krb_files.specs.Keys.{key_at}
use Rattle.krb_files.specs.Pieces.{all_of}
use Rattle.krb_files.specs.Keytab.{version_of, entry_at, record_or_hole_at, sized_at, piece_at, keytab_of}
use Rattle.krb_files.specs.Grammar.{Plain, Number, Principal, KeyField}
use Rattle.krb_files.specs.KeytabGrammar.{Rest, SpellsEntry, Sized, Piece, Ends, SpellsKeytab}
use Rattle.krb_files.proofs.Laws.{Law, Taken, stands, bind_ok, ok_is, octets_law, number_law, passed_law}
use Rattle.krb_files.proofs.FieldLaws.{principal_law, key_law}
use Rattle.krb_files.proofs.WholeLaws.{WholeLaw, StepLaw, then_whole, body_found, body_only, magic_found, more_octets}

-- a reading that names its own place
pub at_place : {A : Type 0} (r : ℕ → Input → Result (A × Input) FileRefusal) (g : A → List ℕ → Type 0) → ((at : ℕ) → Law (r at) g) → Law (λ i. r (place i) i) g
at_place r g law = record {
  found = λ i j v e. (law (place i)).found i j v e;
  only = λ v front back i spelled same. (law (place i)).only v front back i spelled same;
}

abbrev last : Name → ℕ → Option Key → Input → Result Entry FileRefusal
last name low key i = Ok (record { name = name; number = version_of low i.octets; key = key })

last_law : (name : Name) (low : ℕ) (key : Option Key) → WholeLaw (last name low key) (Rest name low key)
last_law name low key = record {
  found = λ i v e. record { same = sym (ok_is _ v e) };
  only = λ v i spelled. ap Ok (sym spelled.same);
}

entry_law : WholeLaw entry_at SpellsEntry
unfolding entry_at
entry_law =
    then_whole (λ i. principal_at 2 (place i) i) (Principal 2)
    (λ i name j. number_at 4 j >>= (λ kind. number_at 4 kind.1 >>= (λ time. number_at 1 time.1 >>= (λ low. key_at 2 low.1 >>= (λ key. last name low.0 key.0 key.1)))))
    _ (at_place (principal_at 2) (Principal 2) (λ at. principal_law 2 at))
    (λ i name. then_whole (number_at 4) (Number 4)
    (λ j kind k. number_at 4 k >>= (λ time. number_at 1 time.1 >>= (λ low. key_at 2 low.1 >>= (λ key. last name low.0 key.0 key.1))))
    _ (number_law 4)
    (λ j kind. then_whole (number_at 4) (Number 4)
    (λ k time l. number_at 1 l >>= (λ low. key_at 2 low.1 >>= (λ key. last name low.0 key.0 key.1)))
    _ (number_law 4)
    (λ k time. then_whole (number_at 1) (Number 1)
    (λ l low m. key_at 2 m >>= (λ key. last name low key.0 key.1))
    _ (number_law 1)
    (λ l low. then_whole (key_at 2) (KeyField 2) (λ m key n. last name low key n) _ (key_law 2) (λ m key. last_law name low key)))))

pub chosen : {A : Type 0} (b : Bool) (x y z : A) → cond b x y ≡ z → ((b ≡ true) × (x ≡ z)) ⊎ ((b ≡ false) × (y ≡ z))
chosen true x y z e = inl (refl, e)
chosen false x y z e = inr (refl, e)

pub no_octets : (octets : List ℕ) → length octets ≤ 0 → octets ≡ []
no_octets [] none = refl
no_octets (o ∷ os) none = absurd (omega arith)

pub zero_test : (n : ℕ) → (n == 0) ≡ true → n ≡ 0
zero_test n e = grind arith

pub is_none : (octets : List ℕ) → (length octets == 0) ≡ true → octets ≡ []
is_none octets e = no_octets octets (omega (arith, zero_test (length octets) e))

is_positive : (size : ℕ) → (size == 0) ≡ false → 0 < size
is_positive zero e = absurd cc
is_positive (suc n) e = omega arith

is_small : (size : ℕ) → nat_lt size (2 ^ 31) ≡ true → size < 2 ^ 31
is_small size e = grind arith

is_large : (size : ℕ) → nat_lt size (2 ^ 31) ≡ false → 2 ^ 31 ≤ size
is_large size e = grind arith

pub not_zero : (size : ℕ) → 0 < size → (size == 0) ≡ false
not_zero size some = grind arith

small_test : (size : ℕ) → size < 2 ^ 31 → nat_lt size (2 ^ 31) ≡ true
small_test size small = grind arith

large_test : (size : ℕ) → 2 ^ 31 ≤ size → nat_lt size (2 ^ 31) ≡ false
large_test size large = grind arith

record_found : (size : ℕ) (i j inner : Input) → record_at size i ≡ Ok (inner, j) → Taken (Plain size) inner.octets i j
unfolding record_at
record_found size i j inner e =
    let b = bind_ok (octets_at i size i) (λ x. Ok (record { end = place x.1; octets = x.0; bounds = Record }, x.1)) (inner, j) e in
    let same = ok_is (record { end = place b.0.1; octets = b.0.0; bounds = Record }, b.0.1) (inner, j) b.2 in
    let t = (octets_law i size).found i b.0.1 b.0.0 b.1 in
    let all : b.0.0 ≡ inner.octets = ap (λ p. p.0.octets) same in
    record { front = t.front; back = t.back; spells = record { sized = t.spells.sized; same = sym all ∙ t.spells.same }; same = t.same; left = sym (ap (λ p. p.1) same) ∙ t.left }

record_only : (size : ℕ) (front back : List ℕ) (i : Input) → length front ≡ size → i.octets ≡ front ++ back → record_at size i ≡ Ok (record { end = place (stands back i); octets = front; bounds = Record }, stands back i)
unfolding record_at
record_only size front back i sized same =
    let first = (octets_law i size).only front front back i (record { sized = sized; same = refl }) same in
    rw first refl

abbrev step : Next Entry → Input → Result (Next Entry × Input) FileRefusal
step next i = Ok (next, i)

abbrev FoundSized : ℕ → Input → Input → Next Entry → Type 0
FoundSized size i j End = size ≡ 0
FoundSized size i j Other = Taken (Sized size) Other i j
FoundSized size i j (Item entry) = Taken (Sized size) (Item entry) i j

found_record : (size : ℕ) (i j : Input) (next : Next Entry) → 0 < size → size < 2 ^ 31 → (record_at size i >>= (λ block. entry_at block.0 >>= (λ entry. step (Item entry) block.1))) ≡ step next j → FoundSized size i j next
found_record size i j next some small e =
    let b = bind_ok (record_at size i) (λ block. entry_at block.0 >>= (λ entry. step (Item entry) block.1)) (next, j) e in
    let d = bind_ok (entry_at b.0.0) (λ entry. step (Item entry) b.0.1) (next, j) b.2 in
    let same = ok_is (Item d.0, b.0.1) (next, j) d.2 in
    let t = record_found size i b.0.1 b.0.0 b.1 in
    let entry : SpellsEntry d.0 b.0.0.octets = entry_law.found b.0.0 d.0 d.1 in
    let spells : SpellsEntry d.0 t.front = subst (λ (os : List ℕ). SpellsEntry d.0 os) t.spells.same entry in
    let taken : Taken (Sized size) (Item d.0) i j = record { front = t.front; back = t.back; spells = (some, small, t.spells.sized, spells); same = t.same; left = sym (ap (λ p. p.1) same) ∙ t.left } in
    subst (λ (n : Next Entry). FoundSized size i j n) (ap (λ p. p.0) same) taken

found_hole : (size : ℕ) (i j : Input) (next : Next Entry) → 2 ^ 31 ≤ size → (passed_at (2 ^ 32 - size) i >>= (λ hole. step Other hole.1)) ≡ step next j → FoundSized size i j next
found_hole size i j next large e =
    let b = bind_ok (passed_at (2 ^ 32 - size) i) (λ hole. step Other hole.1) (next, j) e in
    let other : Next Entry × Input = (Other, b.0.1) in
    let same = ok_is other (next, j) b.2 in
    let t = (passed_law (2 ^ 32 - size)).found i b.0.1 b.0.0 b.1 in
    let taken : Taken (Sized size) Other i j = record { front = t.front; back = t.back; spells = (large, t.spells.sized); same = t.same; left = sym (ap (λ p. p.1) same) ∙ t.left } in
    subst (λ (n : Next Entry). FoundSized size i j n) (ap (λ p. p.0) same) taken

found_end : (size : ℕ) (i j : Input) (next : Next Entry) → (size == 0) ≡ true → step End i ≡ step next j → FoundSized size i j next
found_end size i j next zeros e =
    let end : Next Entry × Input = (End, i) in
    let same = ok_is end (next, j) e in
    let none : FoundSized size i j End = zero_test size zeros in
    subst (λ (n : Next Entry). FoundSized size i j n) (ap (λ p. p.0) same) none

sized_found : (size : ℕ) (i j : Input) (next : Next Entry) → sized_at size i ≡ step next j → FoundSized size i j next
unfolding sized_at
sized_found size i j next e =
    elim (chosen (size == 0) (step End i) (record_or_hole_at size i) (step next j) e) [
      | inl w ↦ found_end size i j next w.0 w.1
      | inr w ↦ elim (chosen (nat_lt size (2 ^ 31)) (record_at size i >>= (λ block. entry_at block.0 >>= (λ entry. step (Item entry) block.1))) (passed_at (2 ^ 32 - size) i >>= (λ hole. step Other hole.1)) (step next j) w.1) [
        | inl u ↦ found_record size i j next (is_positive size w.0) (is_small size u.0) u.1
        | inr u ↦ found_hole size i j next (is_large size u.0) u.1
      ]
    ]

sized_only : (size : ℕ) (next : Next Entry) (front back : List ℕ) (i : Input) → Sized size next front → i.octets ≡ front ++ back → sized_at size i ≡ step next (stands back i)
unfolding sized_at
sized_only size End front back i spelled same = absurd spelled
sized_only size Other front back i spelled same =
    let some : 0 < size = omega arith in
    let first = (passed_law (2 ^ 32 - size)).only tt front back i (record { sized = spelled.1 }) same in
    rw (not_zero size some, large_test size spelled.0, first) refl
sized_only size (Item entry) front back i spelled same =
    let first = record_only size front back i spelled.2 same in
    let second = entry_law.only entry (record { end = place (stands back i); octets = front; bounds = Record }) spelled.3 in
    rw (not_zero size spelled.0, small_test size spelled.1, first, second) refl

abbrev FoundPiece : Input → Input → Next Entry → Type 0
FoundPiece i j End = Ends i.octets
FoundPiece i j Other = Taken Piece Other i j
FoundPiece i j (Item entry) = Taken Piece (Item entry) i j

piece_taken : (size : ℕ) (i j k : Input) (next : Next Entry) → Taken (Number 4) size i j → Taken (Sized size) next j k → Taken Piece next i k
piece_taken size i j k next t u = record {
  front = t.front ++ u.front;
  back = u.back;
  spells = record { value = size; front = t.front; back = u.front; begins = t.spells; goes_on = u.spells; same = refl };
  same = more_octets t.front u.front u.back i j t.back t.same t.left u.same;
  left = u.left ∙ ap (λ (m : Input). stands u.back m) t.left;
}

behind_size : (size : ℕ) (i j k : Input) (next : Next Entry) → Taken (Number 4) size i j → FoundSized size j k next → FoundPiece i k next
behind_size size i j k End t f = inr (record { value = size; front = t.front; back = t.back; begins = t.spells; goes_on = record { none = f }; same = t.same })
behind_size size i j k Other t f = (piece_taken size i j k Other t f)
behind_size size i j k (Item entry) t f = (piece_taken size i j k (Item entry) t f)

found_none : (i j : Input) (next : Next Entry) → i.octets ≡ [] → step End i ≡ step next j → FoundPiece i j next
found_none i j next none e =
    let end : Next Entry × Input = (End, i) in
    let same = ok_is end (next, j) e in
    let ends : Ends i.octets = inl none in
    subst (λ (n : Next Entry). FoundPiece i j n) (ap (λ p. p.0) same) ends

piece_found : (i j : Input) (next : Next Entry) → piece_at i ≡ step next j → FoundPiece i j next
unfolding piece_at
piece_found i j next e =
    elim (chosen (length i.octets == 0) (step End i) (number_at 4 i >>= (λ size. sized_at size.0 size.1)) (step next j) e) [
      | inl w ↦ found_none i j next (is_none i.octets w.0) w.1
      | inr w ↦
          let b = bind_ok (number_at 4 i) (λ size. sized_at size.0 size.1) (next, j) w.1 in
          behind_size b.0.0 i b.0.1 j next ((number_law 4).found i b.0.1 b.0.0 b.1) (sized_found b.0.0 b.0.1 j next b.2)
    ]

pub some_octets : (front back octets : List ℕ) (size : ℕ) → length front ≡ size → 0 < size → octets ≡ front ++ back → 0 < length octets
some_octets front back octets size sized some same = rw same (omega (arith, length-append front back))

piece_some : (i : Input) → 0 < length i.octets → piece_at i ≡ (number_at 4 i >>= (λ size. sized_at size.0 size.1))
unfolding piece_at
piece_some i some = rw (not_zero (length i.octets) some) refl

piece_none : (i : Input) → i.octets ≡ [] → piece_at i ≡ step End i
unfolding piece_at
piece_none i none = rw none refl

at_zero : (size : ℕ) (i : Input) → size ≡ 0 → sized_at size i ≡ step End i
unfolding sized_at
at_zero size i none = rw none refl

piece_ends : (i : Input) → Ends i.octets → (j : Input) × (piece_at i ≡ step End j)
piece_ends i ends =
    elim ends [
      | inl none ↦ (i, piece_none i none)
      | inr t ↦
          let first = (number_law 4).only t.value t.front t.back i t.begins t.same in
          (stands t.back i, rw (piece_some i (some_octets t.front t.back i.octets 4 t.begins.sized (omega arith) t.same), first) (at_zero t.value (stands t.back i) t.goes_on.none))
    ]

piece_only : (next : Next Entry) (front back : List ℕ) (i : Input) → Piece next front → i.octets ≡ front ++ back → piece_at i ≡ step next (stands back i)
piece_only next front back i t same =
    let all : i.octets ≡ t.front ++ (t.back ++ back) = same ∙ (ap (λ (os : List ℕ). os ++ back) t.same ∙ append_assoc t.front t.back back) in
    let first = (number_law 4).only t.value t.front (t.back ++ back) i t.begins all in
    rw (piece_some i (some_octets t.front (t.back ++ back) i.octets 4 t.begins.sized (omega arith) all), first)
    (sized_only t.value next t.back back (stands (t.back ++ back) i) t.goes_on refl)

piece_law : StepLaw piece_at Piece Ends
piece_law = record {
  ended = λ i j e. piece_found i j End e;
  passed = λ i j e. piece_found i j Other e;
  given = λ i j v e. piece_found i j (Item v) e;
  some = λ next front t. some_octets t.front t.back front 4 t.begins.sized (omega arith) t.same;
  never = λ front t. t.goes_on;
  at_end = piece_ends;
  only = piece_only;
  none = λ octets none. inl (no_octets octets none);
}

magic_only : (octets body : List ℕ) → octets ≡ 5 ∷ 2 ∷ body → magic_at 2 octets ≡ Ok (record { end = length octets; octets = body; bounds = File })
unfolding magic_at
magic_only octets body same = rw same refl

pub keytab_found : (octets : List ℕ) (entries : List Entry) → keytab_of octets ≡ Ok entries → SpellsKeytab entries octets
unfolding keytab_of
keytab_found octets entries e =
    let b = bind_ok (magic_at 2 octets) (λ i. all_of piece_at i) entries e in
    record { body = b.0.octets; spells = body_found piece_at Piece Ends piece_law (length b.0.octets) b.0 entries (omega arith) b.2; same = magic_found 2 octets b.0 b.1 }

pub keytab_only : (octets : List ℕ) (entries : List Entry) → SpellsKeytab entries octets → keytab_of octets ≡ Ok entries
unfolding keytab_of
keytab_only octets entries spelled =
    let body = spelled.spells in
    let i : Input = record { end = length octets; octets = spelled.body; bounds = File } in
    let all = body_only piece_at Piece Ends piece_law (length spelled.body) body.pieces body.front body.back i body.row body.ends body.same (omega arith) in
    rw (magic_only octets spelled.body spelled.same, body.kept) all
