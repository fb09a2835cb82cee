-- What is read up to an end.
use Rattle.std.proofs.Common.{◌≡◌, ◌≢◌, ℕ, zero, suc, ◌+◌, ◌<◌, ◌≤◌, List, [], ◌∷◌, ◌++◌, length, Result, Ok, Err, refl, sym, ap, ◌∙◌, arith, append_assoc, length-append}
use Rattle.krb_files.specs.declared.refusal.FileRefusal.{FileRefusal}
use Rattle.krb_files.specs.declared.refusal.FileWhy.{FileWhy}
use Rattle.krb_files.specs.declared.refusal.FileWhy.TheVariants.{Magic, Short, Length, NoMemory}
use Rattle.krb_files.specs.declared.refusal.FileWhy.TheVariants as whys
use Rattle.krb_files.specs.declared.pieces.Next.{Next}
use Rattle.krb_files.specs.declared.pieces.Next.TheVariants.{End, Other, Item}
use Rattle.krb_files.specs.Fields.{Input, ◌>>=◌, Answers, magic_at}
use Rattle.krb_files.specs.Pieces.{many_by, many_of}
use Rattle.krb_files.specs.Grammar.{Then, Row, items, Body, ReadsWhole}
use Rattle.krb_files.proofs.Values.{Step}
use Rattle.krb_files.proofs.Laws.{Law, Taken, stands, bind_ok, ok_is}

pub record WholeLaw {A : Type 0} (read : Input → Result A FileRefusal) (grammar : A → List ℕ → Type 0) : Type 0 where
  pub found : (i : Input) (v : A) → read i ≡ Ok v → grammar v i.octets
  pub only : (v : A) (i : Input) → grammar v i.octets → read i ≡ Ok v

pub then_whole : {A B : Type 0} (r : Input → Result (A × Input) FileRefusal) (g : A → List ℕ → Type 0) (s : Input → A → Input → Result B FileRefusal) (h : A → B → List ℕ → Type 0) → Law r g → ((i : Input) (x : A) → WholeLaw (s i x) (h x)) → WholeLaw (λ i. r i >>= (λ x. s i x.0 x.1)) (Then g h)
then_whole r g s h one two = record {
  found = λ i v e.
      let b = bind_ok (r i) (λ x. s i x.0 x.1) v e in
      let t = one.found i b.0.1 b.0.0 b.1 in
      let behind : b.0.1.octets ≡ t.back = ap (λ (k : Input). k.octets) t.left in
      record { value = b.0.0; front = t.front; back = b.0.1.octets; begins = t.spells; goes_on = (two i b.0.0).found b.0.1 v b.2; same = rw behind t.same };
  only = λ v i spelled.
      let first = one.only spelled.value spelled.front spelled.back i spelled.begins spelled.same in
      rw first ((two i spelled.value).only v (stands spelled.back i) spelled.goes_on);
}

pub record StepLaw {A : Type 0} (step : Step A) (piece : Next A → List ℕ → Type 0) (end : List ℕ → Type 0) : Type 0 where
  pub ended : (i j : Input) → step i ≡ Ok (End, j) → end i.octets
  pub passed : (i j : Input) → step i ≡ Ok (Other, j) → Taken piece Other i j
  pub given : (i j : Input) (v : A) → step i ≡ Ok (Item v, j) → Taken piece (Item v) i j
  pub some : (next : Next A) (front : List ℕ) → piece next front → 0 < length front
  pub never : (front : List ℕ) → piece End front → ⊥
  pub at_end : (i : Input) → end i.octets → (j : Input) × (step i ≡ Ok (End, j))
  pub only : (next : Next A) (front back : List ℕ) (i : Input) → piece next front → i.octets ≡ front ++ back → step i ≡ Ok (next, stands back i)
  pub none : (octets : List ℕ) → length octets ≤ 0 → end octets

pub more_octets : (one two back : List ℕ) (i j : Input) (rest : List ℕ) → i.octets ≡ one ++ rest → j ≡ stands rest i → j.octets ≡ two ++ back → i.octets ≡ (one ++ two) ++ back
more_octets one two back i j rest same left more =
    let e : rest ≡ two ++ back = sym (ap (λ (k : Input). k.octets) left) ∙ more in rw (append_assoc, same, e) refl

body_other : {A : Type 0} (piece : Next A → List ℕ → Type 0) (end : List ℕ → Type 0) (values : List A) (i j : Input) → Taken piece Other i j → Body piece end values j.octets → Body piece end values i.octets
body_other piece end values i j t b = record {
  pieces = Other ∷ b.pieces;
  front = t.front ++ b.front;
  back = b.back;
  row = (t.front, b.front, t.spells, b.row, refl);
  ends = b.ends;
  same = more_octets t.front b.front b.back i j t.back t.same t.left b.same;
  kept = b.kept;
}

body_item : {A : Type 0} (piece : Next A → List ℕ → Type 0) (end : List ℕ → Type 0) (v : A) (values : List A) (i j : Input) → Taken piece (Item v) i j → Body piece end values j.octets → Body piece end (v ∷ values) i.octets
body_item piece end v values i j t b = record {
  pieces = Item v ∷ b.pieces;
  front = t.front ++ b.front;
  back = b.back;
  row = (t.front, b.front, t.spells, b.row, refl);
  ends = b.ends;
  same = more_octets t.front b.front b.back i j t.back t.same t.left b.same;
  kept = ap (λ vs. v ∷ vs) b.kept;
}

shorter : (front back : List ℕ) (n : ℕ) (i j : Input) → i.octets ≡ front ++ back → j ≡ stands back i → 0 < length front → length i.octets ≤ suc n → length j.octets ≤ n
shorter front back n i j same left some most =
    let e : length j.octets ≡ length back = ap (λ (k : Input). length k.octets) left in
    let f : length i.octets ≡ length front + length back = ap length same ∙ length-append front back in
    omega arith

found_behind : {A : Type 0} (step : Step A) (piece : Next A → List ℕ → Type 0) (end : List ℕ → Type 0) → StepLaw step piece end → (n : ℕ) → ((j : Input) (ws : List A) → length j.octets ≤ n → many_of step n j ≡ Ok ws → Body piece end ws j.octets) → (next : Next A) (i j : Input) (values : List A) → length i.octets ≤ suc n → step i ≡ Ok (next, j) → many_by (many_of step n) next j ≡ Ok values → Body piece end values i.octets
found_behind step piece end law n before End i j values most read rest =
    record { pieces = []; front = []; back = i.octets; row = refl; ends = law.ended i j read; same = refl; kept = sym (ok_is [] values rest) }
found_behind step piece end law n before Other i j values most read rest =
    let t = law.passed i j read in
    body_other piece end values i j t (before j values (shorter t.front t.back n i j t.same t.left (law.some Other t.front t.spells) most) rest)
found_behind step piece end law n before (Item v) i j values most read rest =
    let t = law.given i j v read in
    let b = bind_ok (many_of step n j) (λ others. Ok (v ∷ others)) values rest in
    let all : v ∷ b.0 ≡ values = ok_is (v ∷ b.0) values b.2 in
    rw (← all) (body_item piece end v b.0 i j t (before j b.0 (shorter t.front t.back n i j t.same t.left (law.some (Item v) t.front t.spells) most) b.1))

pub body_found : {A : Type 0} (step : Step A) (piece : Next A → List ℕ → Type 0) (end : List ℕ → Type 0) → StepLaw step piece end → (n : ℕ) (i : Input) (values : List A) → length i.octets ≤ n → many_of step n i ≡ Ok values → Body piece end values i.octets
unfolding many_of
body_found step piece end law zero i values most read =
    record { pieces = []; front = []; back = i.octets; row = refl; ends = law.none i.octets most; same = refl; kept = sym (ok_is [] values read) }
body_found step piece end law (suc n) i values most read =
    let b = bind_ok (step i) (λ x. many_by (many_of step n) x.0 x.1) values read in
    found_behind step piece end law n (λ j ws less rest. body_found step piece end law n j ws less rest) b.0.0 i b.0.1 values most b.1 b.2

only_behind : {A : Type 0} (step : Step A) (piece : Next A → List ℕ → Type 0) (end : List ℕ → Type 0) → StepLaw step piece end → (n : ℕ) (next : Next A) (others : List (Next A)) (front : List ℕ) (j : Input) → piece next front → many_of step n j ≡ Ok (items others) → many_by (many_of step n) next j ≡ Ok (items (next ∷ others))
only_behind step piece end law n End others front j spelled rest = absurd (law.never front spelled)
only_behind step piece end law n Other others front j spelled rest = rest
only_behind step piece end law n (Item v) others front j spelled rest = rw rest refl

pub body_only : {A : Type 0} (step : Step A) (piece : Next A → List ℕ → Type 0) (end : List ℕ → Type 0) → StepLaw step piece end → (n : ℕ) (pieces : List (Next A)) (front back : List ℕ) (i : Input) → Row piece pieces front → end back → i.octets ≡ front ++ back → length i.octets ≤ n → many_of step n i ≡ Ok (items pieces)
unfolding many_of
body_only step piece end law zero [] front back i row ends same most = refl
body_only step piece end law zero (next ∷ others) front back i row ends same most =
    let some = law.some next row.0 row.2 in
    let e : length i.octets ≡ length (row.0 ++ row.1) + length back = ap length same ∙ (length-append front back ∙ ap (λ (os : List ℕ). length os + length back) row.4) in
    absurd (omega (arith, length-append row.0 row.1))
body_only step piece end law (suc n) [] front back i row ends same most =
    let all : i.octets ≡ back = same ∙ ap (λ (os : List ℕ). os ++ back) row in
    let t = law.at_end i (rw all ends) in
    rw t.1 refl
body_only step piece end law (suc n) (next ∷ others) front back i row ends same most =
    let all : i.octets ≡ row.0 ++ (row.1 ++ back) = same ∙ (ap (λ (os : List ℕ). os ++ back) row.4 ∙ append_assoc row.0 row.1 back) in
    let first = law.only next row.0 (row.1 ++ back) i row.2 all in
    let less = shorter row.0 (row.1 ++ back) n i (stands (row.1 ++ back) i) all refl (law.some next row.0 row.2) most in
    rw first (only_behind step piece end law n next others row.0 (stands (row.1 ++ back) i) row.2 (body_only step piece end law n others row.1 back (stands (row.1 ++ back) i) row.3 ends refl less))

pub magic_found : (version : ℕ) (octets : List ℕ) (i : Input) → magic_at version octets ≡ Ok i → octets ≡ 5 ∷ version ∷ i.octets
unfolding magic_at
magic_found version [] i read = absurd cc
magic_found version (a ∷ []) i read = absurd cc
magic_found version (a ∷ b ∷ octets) i read = grind arith

is_memory : (why : FileWhy) → (why ≢ NoMemory → ⊥) → why ≡ NoMemory
is_memory Magic f = absurd (f (λ e. cc))
is_memory Short f = absurd (f (λ e. cc))
is_memory Length f = absurd (f (λ e. cc))
is_memory whys.Name f = absurd (f (λ e. cc))
is_memory NoMemory f = refl

pub reads_whole : {A B : Type 0} (view : A → B) (grammar : B → List ℕ → Type 0) (octets : List ℕ) (result : Result A FileRefusal) (answer : Result B FileRefusal) → ((v : B) → answer ≡ Ok v → grammar v octets) → ((v : B) → grammar v octets → answer ≡ Ok v) → Answers view result answer → ReadsWhole view grammar octets result
reads_whole view grammar octets (Ok x) answer found only answers = record { found = found (view x) answers; only = λ v spelled. ok_is (view x) v (sym answers ∙ only v spelled) }
reads_whole view grammar octets (Err e) answer found only answers = record { found = tt; only = λ v spelled. is_memory e.why (λ other. let one = answers other in let two = only v spelled in cc) }
