-- An initiator at a place of a list moves: its stage is taken out, and the one that it moves to is put in.
use Rattle.std.proofs.Common.{◌≡◌, inl, inr, ℕ, zero, suc, refl, sym, ap, subst, ◌∙◌, arith, List, [], ◌∷◌, map, slice_get, slice_set, option_map, Option, Some, None}
use Rattle.std.proofs.lemmas.Option.{slice_get-map}
use Rattle.world_laws.specs.declared.event.Happened.{Happened}
use Rattle.world_laws.specs.declared.event.Happened.TheVariants.{Nothing}
use Rattle.world_runs.specs.Objects.{StageMeans}
use Rattle.world_runs.specs.ObjectMoves.{MovedMeans, TurnsTo, of_stage, Turns}
use Rattle.accept_book.specs.Booking.{BookOf}
use Rattle.world_laws.specs.Events.{IsBook}
use Rattle.world_laws.specs.State.{InHand}
use Rattle.world_runs.specs.Served.{served}
use Rattle.world_runs.specs.Turning.{Turned}
use Rattle.world_runs.specs.Passing.{hand_or, LaneTurns}

pub set-twice : {A : Type 0} (xs : List A) (i : ℕ) (x y : A) → slice_set (slice_set xs i x) i y ≡ slice_set xs i y
set-twice [] i x y = refl
set-twice (z ∷ zs) zero x y = refl
set-twice (z ∷ zs) (suc i) x y = ap (λ ws. z ∷ ws) (set-twice zs i x y)

pub set-back : {A : Type 0} (xs : List A) (i : ℕ) (x : A) → slice_get xs i ≡ Some x → slice_set xs i x ≡ xs
set-back [] i x there = refl
set-back (z ∷ zs) zero x there = ap (λ w. w ∷ zs) (some-same there)
  where
    some-same : {A : Type 0} {a b : A} → Some a ≡ Some b → b ≡ a
    some-same e = grind (arith, e)
set-back (z ∷ zs) (suc i) x there = ap (λ ws. z ∷ ws) (set-back zs i x there)

-- by the stage that was there
placed : (move : Option MovedMeans) (answer : Option Happened) (old : List StageMeans) (i : ℕ) (stage after between : StageMeans) → slice_get old i ≡ Some stage → TurnsTo move answer stage after
    → Turns move i answer old (slice_set (slice_set old i between) i after)
placed None answer old i stage after between there turns =
    (turns.0, set-twice old i between after ∙ (ap (λ s. slice_set old i s) turns.1 ∙ set-back old i stage there))
placed (Some moved) answer old i stage after between there (inl to) = inl (to.0, set-twice old i between after ∙ ap (λ s. slice_set old i s) to.1)
placed (Some moved) answer old i stage after between there (inr lost) = inr (lost.0, set-twice old i between after ∙ ap (λ s. slice_set old i s) lost.1)

pub turned : (move : StageMeans → Option MovedMeans) (answer : Option Happened) (old : List StageMeans) (i : ℕ) (stage after between : StageMeans) → slice_get old i ≡ Some stage
    → TurnsTo (move stage) answer stage after → Turns (of_stage move (slice_get old i)) i answer old (slice_set (slice_set old i between) i after)
turned move answer old i stage after between there turns =
    rw there (placed (move stage) answer old i stage after between there turns)

pub unturned : (move : StageMeans → Option MovedMeans) (old : List StageMeans) (i : ℕ) → slice_get old i ≡ None → Turns (of_stage move (slice_get old i)) i (Some Nothing) old old
unturned move old i gone = rw gone (refl, refl)

-- the same of values that are seen as stages
map-set : {A B : Type 0} (f : A → B) (xs : List A) (i : ℕ) (x : A) → map f (slice_set xs i x) ≡ slice_set (map f xs) i (f x)
map-set f [] i x = refl
map-set f (z ∷ zs) zero x = refl
map-set f (z ∷ zs) (suc i) x = ap (λ ws. f z ∷ ws) (map-set f zs i x)

pub turned_at : {A : Type 0} (says : A → StageMeans) (move : StageMeans → Option MovedMeans) (answer : Option Happened) (old : List A) (i : ℕ) (stage after between : A) → slice_get old i ≡ Some stage
    → TurnsTo (move (says stage)) answer (says stage) (says after) → Turns (of_stage move (slice_get (map says old) i)) i answer (map says old) (map says (slice_set (slice_set old i between) i after))
turned_at says move answer old i stage after between there turns =
    subst (λ xs. Turns (of_stage move (slice_get (map says old) i)) i answer (map says old) xs)
    (sym (map-set says (slice_set old i between) i after ∙ ap (λ ws. slice_set ws i (says after)) (map-set says old i between)))
    (turned move answer (map says old) i (says stage) (says after) (says between) (slice_get-map says old i ∙ ap (option_map says) there) turns)

pub unturned_at : {A : Type 0} (says : A → StageMeans) (move : StageMeans → Option MovedMeans) (old : List A) (i : ℕ) → slice_get old i ≡ None → Turns (of_stage move (slice_get (map says old) i)) i (Some Nothing) (map says old) (map says old)
unturned_at says move old i gone = unturned move (map says old) i (slice_get-map says old i ∙ ap (option_map says) gone)

-- ---- a lane at a place goes on, over the book that is taken out and put back

pub gone-on : (lanes : List (Option InHand)) (lane : ℕ) (taken : InHand) (answer : Option Happened) (shelf : Option BookOf) (book next : BookOf) (before left between : Option InHand)
    → slice_get lanes lane ≡ Some before → shelf ≡ Some book → Turned served book (hand_or before taken) next left answer → IsBook next
    → LaneTurns (slice_get lanes lane) lane taken answer (record { book = shelf; lanes = lanes }) (record { book = Some next; lanes = slice_set (slice_set lanes lane between) lane left })
gone-on lanes lane taken answer shelf book next before left between there was turned legal =
    rw there (record { book = book; next = next; was = was; is = refl; left = left; turned = turned; legal = legal; lanes = set-twice lanes lane between left })
