-- Each move keeps the one history.
use Rattle.std.proofs.Common.{◌≡◌, ◌≢◌, ◌⊎◌, ℕ, zero, suc, ◌+◌, ◌==◌, eq-eqb, ne_eqb, if◌then◌else◌, List, [], ◌∷◌, ◌++◌, length, set, Bool, true, false, true≢false, append-nil, refl, sym, ap, ◌∙◌, subst, inl, inr, ⊎_elim, arith}
use Rattle.std.proofs.lemmas.List.{append_assoc}
use mathlib.Core.Option.{none, some, some-ne-none, some-injective}
use lib.ListN.{get_elem?}
use Rattle.atomic_table.specs.Table.{Splits, Joins, Allows, step, keeps}
use Rattle.atomic_table.proofs.Lists.{at_set, set_again, set_else}
use Rattle.book_seats.specs.Notes.{Note, Noted, StartsWith, noted_by}
use Rattle.book_seats.specs.Views.{ViewOf, writer, clerk, busy, nobody, with_one_more, new_clerk, holding, noting, noted, Looks, Fits, Kept, Compares}

abbrev owned : (ℕ → ℕ) → ℕ → ℕ → ℕ → ℕ
owned owner desk by x = if x == desk then by else owner x

owned-here : (owner : ℕ → ℕ) (desk by : ℕ) → owned owner desk by desk ≡ by
owned-here owner desk by = ap (λ (b : Bool). if b then by else owner desk) (eq-eqb desk desk refl)

owned-else : (owner : ℕ → ℕ) (desk by x : ℕ) → x ≢ desk → owned owner desk by x ≡ owner x
owned-else owner desk by x apart = ap (λ (b : Bool). if b then by else owner x) (ne_eqb x desk apart)

pub at_end : {A : Type 0} (l : List A) (a b : A) (j : ℕ) → get_elem? (l ++ a ∷ []) j ≡ some b → (get_elem? l j ≡ some b) ⊎ ((j ≡ length l) × (a ≡ b))
at_end [] a b zero e = inr (refl, some-injective a b e)
at_end [] a b (suc j) e = absurd (some-ne-none b (sym e))
at_end (x ∷ xs) a b zero e = inl e
at_end (x ∷ xs) a b (suc j) e = ⊎_elim (λ h. inl h) (λ (h : (j ≡ length xs) × (a ≡ b)). inr (ap suc h.0, h.1)) (at_end xs a b j e)

off : false ≡ true → ⊥
off e = true≢false (sym e)

module _ {T : Type 0} where
  -- ---- the questions of a desk

  pub of-append : (desk : ℕ) (xs ys : List (Note T)) → noted_by desk (xs ++ ys) ≡ noted_by desk xs ++ noted_by desk ys
  of-append desk [] ys = refl
  of-append desk (x ∷ xs) ys = by_case (x.0 == desk) (of-append desk xs ys)
    where
      by_case : (b : Bool) → noted_by desk (xs ++ ys) ≡ noted_by desk xs ++ noted_by desk ys → (if b then x.1 ∷ noted_by desk (xs ++ ys) else noted_by desk (xs ++ ys)) ≡ (if b then x.1 ∷ noted_by desk xs else noted_by desk xs) ++ noted_by desk ys
      by_case true e = ap (λ (l : List (Noted T)). x.1 ∷ l) e
      by_case false e = e

  pub of-own : (desk : ℕ) (one : Noted T) → noted_by desk ((desk, one) ∷ []) ≡ one ∷ []
  of-own desk one = ap (λ (b : Bool). if b then one ∷ [] else []) (eq-eqb desk desk refl)

  pub of-else : (desk other : ℕ) (one : Noted T) → other ≢ desk → noted_by desk ((other, one) ∷ []) ≡ []
  of-else desk other one apart = ap (λ (b : Bool). if b then one ∷ [] else []) (ne_eqb other desk apart)

  -- ---- lists of views

  blank-fits : (seat made : ℕ) (owner : ℕ → ℕ) (log : List (Note T)) (by : ℕ) → Fits seat made owner log by nobody
  blank-fits seat made owner log by = ((λ w. absurd (off w)), (λ c. absurd (off c)))

  -- what fits still fits where another's desk gets another owner
  fits-owned : (seat made : ℕ) (owner : ℕ → ℕ) (log : List (Note T)) (desk to by : ℕ) (v : ViewOf T) → (v.claims ≡ true → v.desk ≢ desk) → Fits seat made owner log by v → Fits seat made (owned owner desk to) log by v
  fits-owned seat made owner log desk to by v apart h = (h.0, (λ c. let m = h.1 c in (m.0, owned-else owner desk to v.desk (apart c) ∙ m.1, m.2, m.3)))

  -- the owner of a desk is one
  apart-from : (seat made : ℕ) (owner : ℕ → ℕ) (log : List (Note T)) (by : ℕ) (desk j : ℕ) (u : ViewOf T) → owner desk ≡ by → j ≢ by → Fits seat made owner log j u → u.claims ≡ true → u.desk ≢ desk
  apart-from seat made owner log by desk j u own apart h c same = apart (sym (h.1 c).1 ∙ ap owner same ∙ own)

  pub begins : (words : List ℕ) → Kept {T = T} record { words = words; homes = []; views = writer 0 [] ∷ [] }
  begins words = (0, 0, (λ x. x), [], (λ _ _. refl), one)
    where
      one : (by : ℕ) (v : ViewOf T) → get_elem? (writer 0 [] ∷ []) by ≡ some v → Fits 0 0 (λ x. x) [] by v
      one zero v e = subst (Fits 0 0 (λ x. x) [] 0) (some-injective _ _ e) ((λ _. (refl, refl, refl)), (λ c. absurd (off c)))
      one (suc by) v e = absurd (some-ne-none v (sym e))

  split-each : (views : List (ViewOf T)) (id : ℕ) (left right : ViewOf T) (F : ℕ → ViewOf T → Type 0) → F id left → ((j : ℕ) (u : ViewOf T) → j ≢ id → get_elem? views j ≡ some u → F j u) → F (length (set views id left)) right
      → (by : ℕ) (v : ViewOf T) → get_elem? (set views id left ++ right ∷ []) by ≡ some v → F by v
  split-each views id left right F here others last by v e =
      ⊎_elim
      (λ (e' : get_elem? (set views id left) by ≡ some v). ⊎_elim
      (λ (x : (by ≡ id) × (left ≡ v)). subst (λ (y : ℕ × ViewOf T). F y.0 y.1) (λ i. (sym x.0 i, x.1 i)) here)
      (λ (x : (by ≢ id) × (get_elem? views by ≡ some v)). others by v x.0 x.1)
      (at_set views id by left v e'))
      (λ (x : (by ≡ length (set views id left)) × (right ≡ v)). subst (λ (y : ℕ × ViewOf T). F y.0 y.1) (λ i. (sym x.0 i, x.1 i)) last)
      (at_end (set views id left) right v by e)

  join-each : (views : List (ViewOf T)) (id other : ℕ) (both spent : ViewOf T) (F : ℕ → ViewOf T → Type 0) → F id both → F other spent → ((j : ℕ) (u : ViewOf T) → j ≢ id → j ≢ other → get_elem? views j ≡ some u → F j u)
      → (by : ℕ) (v : ViewOf T) → get_elem? (set (set views id both) other spent) by ≡ some v → F by v
  join-each views id other both spent F here gone others by v e =
      ⊎_elim
      (λ (x : (by ≡ other) × (spent ≡ v)). subst (λ (y : ℕ × ViewOf T). F y.0 y.1) (λ i. (sym x.0 i, x.1 i)) gone)
      (λ (x : (by ≢ other) × (get_elem? (set views id both) by ≡ some v)). ⊎_elim
      (λ (y : (by ≡ id) × (both ≡ v)). subst (λ (z : ℕ × ViewOf T). F z.0 z.1) (λ i. (sym y.0 i, y.1 i)) here)
      (λ (y : (by ≢ id) × (get_elem? views by ≡ some v)). others by v y.0 x.0 y.1)
      (at_set views id by both v x.1))
      (at_set (set views id both) other by spent v e)

  whole : (log seen : List (Note T)) → log ≡ seen → StartsWith log seen
  whole log seen e = ([], e ∙ sym (append-nil seen))

  longer : (log seen more : List (Note T)) → StartsWith log seen → StartsWith (log ++ more) seen
  longer log seen more h = (h.0 ++ more, ap (λ (l : List (Note T)). l ++ more) h.1 ∙ append_assoc seen h.0 more)

  -- a new clerk
  pub hires : (id made : ℕ) (all : List (Note T)) → Splits Kept id (writer made all) (writer (made + 1) all) (clerk made all)
  hires id made all s h at =
      let mine = (h.5 id (writer made all) at).0 refl in
      let n : ℕ = length (set s.views id (writer (made + 1) all)) in (
        h.0,
        made + 1,
        owned h.2 made n,
        h.3,
        (λ d few. h.4 d (omega (arith, few, mine.2))),
        split-each s.views id (writer (made + 1) all) (clerk made all) (Fits h.0 (made + 1) (owned h.2 made n) h.3)
            ((λ _. (mine.0, mine.1, refl)), (λ c. absurd (off c)))
            (λ j u apart e. let old = h.5 j u e in ((λ w. absurd (apart ((old.0 w).0 ∙ sym mine.0))), (λ c. let k = old.1 c in (omega (arith, k.0, mine.2), owned-else h.2 made n u.desk (λ same. omega (arith, k.0, mine.2, same)) ∙ k.1, k.2, k.3))))
            ((λ w. absurd (off w)), (λ _. (omega arith, owned-here h.2 made n, whole h.3 all (sym mine.1), ap (noted_by made) (sym mine.1)))),
      )

  -- a clerk's view goes to a new seat
  pub lends : (id desk : ℕ) (mine : List (Note T)) → Splits Kept id (clerk desk mine) nobody (clerk desk mine)
  lends id desk mine s h at =
      let m = (h.5 id (clerk desk mine) at).1 refl in
      let n : ℕ = length (set s.views id nobody) in (
        h.0,
        h.1,
        owned h.2 desk n,
        h.3,
        h.4,
        split-each s.views id nobody (clerk desk mine) (Fits h.0 h.1 (owned h.2 desk n) h.3)
            (blank-fits h.0 h.1 (owned h.2 desk n) h.3 id)
            (λ j u apart e. fits-owned h.0 h.1 h.2 h.3 desk n j u (apart-from h.0 h.1 h.2 h.3 id desk j u m.1 apart (h.5 j u e)) (h.5 j u e))
            ((λ w. absurd (off w)), (λ _. (m.0, owned-here h.2 desk n, m.2, m.3))),
      )

  -- the writer takes a clerk's desk in hand
  pub holds_it : (id made : ℕ) (all : List (Note T)) (other desk : ℕ) (mine : List (Note T)) → Joins Kept id (writer made all) other (clerk desk mine) (busy made all desk mine) nobody
  holds_it id made all other desk mine s h at apart there =
      let w = (h.5 id (writer made all) at).0 refl in
      let m = (h.5 other (clerk desk mine) (sym (set_else s.views id other (busy made all desk mine) apart) ∙ there)).1 refl in (
        h.0,
        h.1,
        owned h.2 desk id,
        h.3,
        h.4,
        join-each s.views id other (busy made all desk mine) nobody (Fits h.0 h.1 (owned h.2 desk id) h.3)
            ((λ _. w), (λ _. (m.0, owned-here h.2 desk id, m.2, m.3)))
            (blank-fits h.0 h.1 (owned h.2 desk id) h.3 other)
            (λ j u _ apart' e. fits-owned h.0 h.1 h.2 h.3 desk id j u (apart-from h.0 h.1 h.2 h.3 other desk j u m.1 apart' (h.5 j u e)) (h.5 j u e)),
      )

  -- a question is noted
  pub notes : (id made : ℕ) (all : List (Note T)) (desk : ℕ) (mine : List (Note T)) (one : Noted T) → Splits Kept id (busy made all desk mine) (writer made (all ++ (desk, one) ∷ [])) (clerk desk (all ++ (desk, one) ∷ []))
  notes id made all desk mine one s h at =
      let mee = h.5 id (busy made all desk mine) at in
      let w = mee.0 refl in
      let m = mee.1 refl in
      let new : ViewOf T = writer made (all ++ (desk, one) ∷ []) in
      let n : ℕ = length (set s.views id new) in
      let log : List (Note T) = h.3 ++ (desk, one) ∷ [] in (
        h.0,
        h.1,
        owned h.2 desk n,
        log,
        (λ d few. of-append d h.3 ((desk, one) ∷ []) ∙ ap (λ (l : List (Noted T)). noted_by d h.3 ++ l) (of-else d desk one (λ same. omega (arith, few, m.0, same))) ∙ append-nil (noted_by d h.3) ∙ h.4 d few),
        split-each s.views id new (clerk desk (all ++ (desk, one) ∷ [])) (Fits h.0 h.1 (owned h.2 desk n) log)
            ((λ _. (w.0, ap (λ (l : List (Note T)). l ++ (desk, one) ∷ []) w.1, w.2)), (λ c. absurd (off c)))
            (λ j u apart e. let old = h.5 j u e in (
              (λ ww. absurd (apart ((old.0 ww).0 ∙ sym w.0))),
              (λ c. let k = old.1 c in let other' = apart-from h.0 h.1 h.2 h.3 id desk j u m.1 apart old c in
                  (k.0, owned-else h.2 desk n u.desk other' ∙ k.1, longer h.3 u.seen ((desk, one) ∷ []) k.2, of-append u.desk h.3 ((desk, one) ∷ []) ∙ ap (λ (l : List (Noted T)). noted_by u.desk h.3 ++ l) (of-else u.desk desk one (λ same. other' (sym same))) ∙ append-nil (noted_by u.desk h.3) ∙ k.3)),
            ))
            ((λ ww. absurd (off ww)), (λ _. (m.0, owned-here h.2 desk n, whole log (all ++ (desk, one) ∷ []) (ap (λ (l : List (Note T)). l ++ (desk, one) ∷ []) (sym w.1)), ap (λ (l : List (Note T)). noted_by desk (l ++ (desk, one) ∷ [])) (sym w.1)))),
      )

  -- a clerk's view comes back
  pub returns_it : (id other desk : ℕ) (mine : List (Note T)) → Joins Kept id nobody other (clerk desk mine) (clerk desk mine) nobody
  returns_it id other desk mine s h at apart there =
      let m = (h.5 other (clerk desk mine) (sym (set_else s.views id other (clerk desk mine) apart) ∙ there)).1 refl in (
        h.0,
        h.1,
        owned h.2 desk id,
        h.3,
        h.4,
        join-each s.views id other (clerk desk mine) nobody (Fits h.0 h.1 (owned h.2 desk id) h.3)
            ((λ w. absurd (off w)), (λ _. (m.0, owned-here h.2 desk id, m.2, m.3)))
            (blank-fits h.0 h.1 (owned h.2 desk id) h.3 other)
            (λ j u _ apart' e. fits-owned h.0 h.1 h.2 h.3 desk id j u (apart-from h.0 h.1 h.2 h.3 other desk j u m.1 apart' (h.5 j u e)) (h.5 j u e)),
      )

  pub looks : (slots id : ℕ) (v : ViewOf T) (c : List (ℕ × Unit)) (word : ℕ) → v.writes ≡ true → Allows Kept slots id (v, c) word (λ n. n) (Looks (step slots word 0 0 none) (v, c))
  looks slots id v c word writes s h homes at small =
      let mee = h.5 id v at in
      let w = mee.0 writes in (
        v,
        keeps,
        tt,
        subst (λ (views : List (ViewOf T)). Kept record { words = s.words; homes = s.homes; views = views }) (sym (set_again s.views id v at)) h,
        (refl, λ k. let m = mee.1 k in (subst (λ (l : List (Note T)). StartsWith l v.seen) (sym w.1) m.2, ap (noted_by v.desk) w.1 ∙ m.3)),
      )

  pub compares : (slots id : ℕ) (v : ViewOf T) (c : List (ℕ × Unit)) (word : ℕ) → v.writes ≡ true → Allows Kept slots id (v, c) word (λ n. n) (Compares (step slots word 0 0 none) (v, c))
  compares slots id v c word writes s h homes at small =
      let mee = h.5 id v at in
      let w = mee.0 writes in (
        writer v.made v.all,
        keeps,
        tt,
        (
          h.0,
          h.1,
          h.2,
          h.3,
          h.4,
          λ j u e. ⊎_elim
              (λ (x : (j ≡ id) × (writer v.made v.all ≡ u)). subst (λ (y : ℕ × ViewOf T). Fits h.0 h.1 h.2 h.3 y.0 y.1) (λ i. (sym x.0 i, x.1 i)) ((λ _. w), (λ cc. absurd (off cc))))
              (λ (x : (j ≢ id) × (get_elem? s.views j ≡ some u)). h.5 j u x.1)
              (at_set s.views id j (writer v.made v.all) u e),
        ),
        (refl, (λ k. ap (noted_by v.desk) w.1 ∙ (mee.1 k).3), (λ d few. ap (noted_by d) w.1 ∙ h.4 d (omega (arith, few, w.2)))),
      )

  -- ---- the moves, at views that are known

  pub hires_as : (id : ℕ) (v : ViewOf T) → v ≡ writer v.made v.all → Splits Kept id v (with_one_more v) (new_clerk v)
  hires_as id v is = subst (λ (u : ViewOf T). Splits Kept id u (with_one_more u) (new_clerk u)) (sym is) (hires id v.made v.all)

  pub lends_as : (id : ℕ) (v : ViewOf T) → v ≡ clerk v.desk v.seen → Splits Kept id v nobody v
  lends_as id v is = subst (λ (u : ViewOf T). Splits Kept id u nobody u) (sym is) (lends id v.desk v.seen)

  pub holds_as : (id : ℕ) (v : ViewOf T) (other : ℕ) (w : ViewOf T) → v ≡ writer v.made v.all → w ≡ clerk w.desk w.seen → Joins Kept id v other w (holding v w) nobody
  holds_as id v other w is_v is_w = subst (λ (p : ViewOf T × ViewOf T). Joins Kept id p.0 other p.1 (holding p.0 p.1) nobody) (λ i. (sym is_v i, sym is_w i)) (holds_it id v.made v.all other w.desk w.seen)

  pub notes_as : (id : ℕ) (v : ViewOf T) (one : Noted T) → v ≡ busy v.made v.all v.desk v.seen → Splits Kept id v (noting one v) (noted one v)
  notes_as id v one is = subst (λ (u : ViewOf T). Splits Kept id u (noting one u) (noted one u)) (sym is) (notes id v.made v.all v.desk v.seen one)

  pub returns_as : (id : ℕ) (v : ViewOf T) (other : ℕ) (w : ViewOf T) → v ≡ nobody → w ≡ clerk w.desk w.seen → Joins Kept id v other w w nobody
  returns_as id v other w is_v is_w = subst (λ (p : ViewOf T × ViewOf T). Joins Kept id p.0 other p.1 p.1 nobody) (λ i. (sym is_v i, sym is_w i)) (returns_it id other w.desk w.seen)

  pub is_busy : (u v w : ViewOf T) → u ≡ holding v w → v ≡ writer v.made v.all → w ≡ clerk w.desk w.seen → u ≡ busy u.made u.all u.desk u.seen
  is_busy u v w e is_v is_w = subst (λ (x : ViewOf T). x ≡ busy x.made x.all x.desk x.seen) (sym (e ∙ (λ i. holding (is_v i) (is_w i)))) refl

  pub is_clerk : (u v : ViewOf T) (one : Noted T) → u ≡ noted one v → u ≡ clerk u.desk u.seen
  is_clerk u v one e = subst (λ (x : ViewOf T). x ≡ clerk x.desk x.seen) (sym e) refl
