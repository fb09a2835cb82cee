-- How the stages of a disk in memory go on.
use Rattle.std.proofs.Common.{◌≡◌, ◌⊎◌, inl, inr, ⊎_elim, ℕ, zero, suc, ◌+◌, ◌-◌, ◌≤◌, min, List, [], ◌∷◌, ◌++◌, length, take, drop, refl, sym, ◌∙◌, ap, subst, arith, length-append, length-drop}
use Rattle.std.proofs.lemmas.List.{append-nil, take-append-le, drop_at, drop_all}
use Rattle.std.proofs.lemmas.Bool.{cases_eq}
use Rattle.replay_journal.specs.Disks.{Torn, Elapses}
use Rattle.replay_journal.specs.Images.{MayLeave, HadBeen}
use Rattle.replay_journal.specs.declared.memory.Range.{Range}
use Rattle.replay_journal.specs.declared.memory.Stage.{Stage}

pub torn-same : (at n : ℕ) (c : List ℕ) → Torn at n c c
torn-same at n c = record { before = refl; after = refl; no_shorter = omega arith; no_longer = omega arith }

-- one range more
pub more-leaves : (base : List ℕ) (ranges : List Range) (range : Range) (d c : List ℕ) → MayLeave base ranges d → Torn range.at range.count d c → MayLeave base (ranges ++ range ∷ []) c
more-leaves base [] range d c left torn = (c, subst (λ (b : List ℕ). Torn range.at range.count b c) left torn, refl)
more-leaves base (r ∷ ranges) range d c left torn = (left.0, left.1, more-leaves left.0 ranges range d c left.2 torn)

pub before-more : (base : List ℕ) (ranges : List Range) (range : Range) (c : List ℕ) → MayLeave base (ranges ++ range ∷ []) c → (d : List ℕ) × MayLeave base ranges d × Torn range.at range.count d c
before-more base [] range c left = (base, refl, subst (λ (e : List ℕ). Torn range.at range.count base e) (sym left.2) left.1)
before-more base (r ∷ ranges) range c left =
    let found = before-more left.0 ranges range c left.2 in
    (found.0, (left.0, left.1, found.1), found.2)

-- what a torn write leaves, part by part
pub torn-parts : (at n reach : ℕ) (old t new : List ℕ) → at ≤ length old → take at t ≡ take at old → length t ≡ at + reach → reach ≤ n → min n (length old - at) ≤ reach
    → new ≡ t ++ drop (at + n) old → Torn at n old new
torn-parts at n reach old t new inside same long few all is =
    record {
      before = ap (λ (l : List ℕ). take at l) is ∙ take-append-le at t (drop (at + n) old) (omega (arith, long)) ∙ same;
      after = ap (λ (l : List ℕ). drop (at + n) l) is ∙ elim (cases_eq reach n) [
        | inl full ↦ drop_at t (drop (at + n) old) (at + n) (omega (arith, long, full))
        | inr less ↦
            let none : drop (at + n) old ≡ [] = drop_all (at + n) old (omega (arith, less, few, all)) in
            ap (λ (l : List ℕ). drop (at + n) (t ++ l)) none ∙ ap (λ (l : List ℕ). drop (at + n) l) (append-nil t) ∙ drop_all (at + n) t (omega (arith, long, few)) ∙ sym none
      ];
      no_shorter = omega (arith, ap length is, length-append t (drop (at + n) old), length-drop (at + n) old, long, few, all, inside);
      no_longer = omega (arith, ap length is, length-append t (drop (at + n) old), length-drop (at + n) old, long, few, all, inside);
    }

keeps : (past : List Stage) (s : Stage) (c : List ℕ) → HadBeen past c → HadBeen (past ++ s ∷ []) c
keeps [] s c had = absurd had
keeps (p ∷ past) s c (inl here) = inl here
keeps (p ∷ past) s c (inr there) = inr (keeps past s c there)

adds : (past : List Stage) (s : Stage) (c : List ℕ) → HadBeen (past ++ s ∷ []) c → HadBeen past c ⊎ MayLeave s.base.items s.ranges.items c
adds [] s c (inl here) = inr here
adds [] s c (inr none) = absurd none
adds (p ∷ past) s c (inl here) = inl (inl here)
adds (p ∷ past) s c (inr there) = ⊎_elim (λ had. inl (inr had)) (λ new. inr new) (adds past s c there)

newest : (past : List Stage) (s : Stage) (c : List ℕ) → MayLeave s.base.items s.ranges.items c → HadBeen (past ++ s ∷ []) c
newest [] s c is = inl is
newest (p ∷ past) s c is = inr (newest past s c is)

drop_push : (t : ℕ) (past : List Stage) (s : Stage) → t ≤ length past → drop t (past ++ s ∷ []) ≡ drop t past ++ s ∷ []
drop_push zero past s le = refl
drop_push (suc t) [] s le = absurd (omega arith)
drop_push (suc t) (p ∷ past) s le = drop_push t past s (omega arith)

abbrev pub Since : List Stage → (List ℕ → Type 0) → ℕ → List ℕ → Type 0
Since past now t c = now c ⊎ HadBeen (drop t past) c

-- more may be left
pub elapses-more : (past : List Stage) (old new : List ℕ → Type 0) → ((c : List ℕ) → old c → new c) → Elapses (length past) (length past) (Since past old) (Since past new) new
elapses-more past old new grows = record {
  later = omega arith;
  nothing_else = λ t c le left. ⊎_elim (λ now. inr now) (λ had. inl (inr had)) left;
  keeps = λ t c le left. ⊎_elim (λ now. inl (grows c now)) (λ had. inr had) left;
}

-- a stage ends
pub elapses-stage : (past later : List Stage) (s : Stage) (new : List ℕ → Type 0) → later ≡ past ++ s ∷ []
    → Elapses (length past) (length later) (Since past (MayLeave s.base.items s.ranges.items)) (Since later new) new
elapses-stage past later s new is =
    subst (λ (l : List Stage). Elapses (length past) (length l) (Since past (MayLeave s.base.items s.ranges.items)) (Since l new) new) (sym is) record {
      later = omega (arith, length-append past (s ∷ []));
      nothing_else = λ t c le left. ⊎_elim (λ now. inr now) (λ had. inl (was t c (adds (drop t past) s c (subst (λ (l : List Stage). HadBeen l c) (drop_push t past s le) had)))) left;
      keeps = λ t c le left. inr (subst (λ (l : List Stage). HadBeen l c) (sym (drop_push t past s le)) (⊎_elim (λ now. newest (drop t past) s c now) (keeps (drop t past) s c) left));
    }
  where
    was : (t : ℕ) (c : List ℕ) → HadBeen (drop t past) c ⊎ MayLeave s.base.items s.ranges.items c → Since past (MayLeave s.base.items s.ranges.items) t c
    was t c (inl had) = inr had
    was t c (inr new) = inl new
