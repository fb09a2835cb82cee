-- What a crash leaves in each of the steps of an append.
use Rattle.std.proofs.Common.{◌≡◌, ◌≢◌, inl, inr, ℕ, ◌+◌, ◌*◌, ◌<◌, List, [], ◌∷◌, ◌++◌, length, take, drop, get_or, sym, ◌∙◌, ap, subst, arith, length-append, append_assoc, take-append-drop}
use Rattle.std.proofs.lemmas.List.{take_at, drop_at, drop_more}
use Rattle.std.proofs.lemmas.Bool.{cases_eq}
use Rattle.replay_journal.specs.Disks.{Written, Torn, Follows, Only}
use Rattle.replay_journal.specs.Files.{front, blocks, Sized, Rests}
use Rattle.replay_journal.specs.Journals.{BeforeOrAll}
use Rattle.replay_journal.proofs.Blocks.{length-front, front-all, sized-all}

-- the file with a body behind its gate, and a closed gate behind that
pub record Staged (records : List (List ℕ)) (body file : List ℕ) : Type 0 where
  pub gate : ℕ
  pub tail : List ℕ
  pub split : file ≡ front records ++ gate ∷ (body ++ 0 ∷ tail)
  pub sized : Sized records
  pub shut : gate ≢ 0x4a

module _ (records : List (List ℕ)) (count : ℕ) (counts : count ≡ length records) where
  -- the gate stays closed in each outcome of the first write
  pub torn_body : (n : ℕ) (file c : List ℕ) → Rests records file → Torn (9 + 45 * count) n file c → Rests records c
  torn_body n file c rests torn =
      let before : List ℕ = front records ++ rests.gate ∷ [] in
      let size : length before ≡ 9 + 45 * count = omega (arith, length-append (front records) (rests.gate ∷ []), length-front records rests.sized, counts) in
      let whole : file ≡ before ++ rests.tail = rests.split ∙ sym (append_assoc (front records) (rests.gate ∷ []) rests.tail) in
      let start : take (9 + 45 * count) c ≡ before = torn.before ∙ ap (λ (l : List ℕ). take (9 + 45 * count) l) whole ∙ take_at before rests.tail (9 + 45 * count) size in
      record {
        gate = rests.gate;
        tail = drop (9 + 45 * count) c;
        split = sym (take-append-drop (9 + 45 * count) c) ∙ ap (λ (l : List ℕ). l ++ drop (9 + 45 * count) c) start ∙ append_assoc (front records) (rests.gate ∷ []) (drop (9 + 45 * count) c);
        sized = rests.sized;
        shut = rests.shut;
      }

  pub written_body : (body file c : List ℕ) → Rests records file → Written file (9 + 45 * count) (body ++ 0 ∷ []) c → Staged records body c
  written_body body file c rests written =
      let before : List ℕ = front records ++ rests.gate ∷ [] in
      let size : length before ≡ 9 + 45 * count = omega (arith, length-append (front records) (rests.gate ∷ []), length-front records rests.sized, counts) in
      let whole : file ≡ before ++ rests.tail = rests.split ∙ sym (append_assoc (front records) (rests.gate ∷ []) rests.tail) in
      let start : take (9 + 45 * count) file ≡ before = ap (λ (l : List ℕ). take (9 + 45 * count) l) whole ∙ take_at before rests.tail (9 + 45 * count) size in
      let behind : List ℕ = drop (9 + 45 * count + length (body ++ 0 ∷ [])) file in
      record {
        gate = rests.gate;
        tail = behind;
        split = written
            ∙ ap (λ (l : List ℕ). l ++ (body ++ 0 ∷ []) ++ behind) start
            ∙ append_assoc before (body ++ 0 ∷ []) behind
            ∙ append_assoc (front records) (rests.gate ∷ []) ((body ++ 0 ∷ []) ++ behind)
            ∙ ap (λ (l : List ℕ). front records ++ rests.gate ∷ l) (append_assoc body (0 ∷ []) behind);
        sized = rests.sized;
        shut = rests.shut;
      }

  pub staged_rests : (body file : List ℕ) → Staged records body file → Rests records file
  staged_rests body file staged = record { gate = staged.gate; tail = body ++ 0 ∷ staged.tail; split = staged.split; sized = staged.sized; shut = staged.shut }

  pub staged_long : (body file : List ℕ) → Staged records body file → 8 + 45 * count < length file
  staged_long body file staged =
      omega (arith, ap length staged.split, length-append (front records) (staged.gate ∷ (body ++ 0 ∷ staged.tail)), length-front records staged.sized, counts)

  -- the body stands whole in each outcome of the second write
  pub torn_gate : (new : List (List ℕ)) (body file c : List ℕ) → 0x4a ∷ body ≡ blocks new → Sized new → Staged records body file → Torn (8 + 45 * count) 1 file c → BeforeOrAll records new c
  torn_gate new body file c first sized staged torn =
      let at : ℕ = 8 + 45 * count in
      let size : length (front records) ≡ at = omega (arith, length-front records staged.sized, counts) in
      let gate : ℕ = get_or c at 0 in
      let start : take at c ≡ front records = torn.before ∙ ap (λ (l : List ℕ). take at l) staged.split ∙ take_at (front records) _ at size in
      let apart : file ≡ (front records ++ staged.gate ∷ []) ++ (body ++ 0 ∷ staged.tail) = staged.split ∙ sym (append_assoc (front records) (staged.gate ∷ []) (body ++ 0 ∷ staged.tail)) in
      let back : drop (at + 1) file ≡ body ++ 0 ∷ staged.tail = ap (λ (l : List ℕ). drop (at + 1) l) apart ∙ drop_at (front records ++ staged.gate ∷ []) (body ++ 0 ∷ staged.tail) (at + 1) (omega (arith, size, length-append (front records) (staged.gate ∷ []))) in
      let rest : drop at c ≡ gate ∷ (body ++ 0 ∷ staged.tail) =
      drop_more c at 0 (omega (arith, torn.no_shorter, staged_long body file staged)) ∙ ap (λ (l : List ℕ). gate ∷ l) (torn.after ∙ back) in
      let whole : c ≡ front records ++ gate ∷ (body ++ 0 ∷ staged.tail) =
      sym (take-append-drop at c) ∙ ap (λ (l : List ℕ). l ++ drop at c) start ∙ ap (λ (l : List ℕ). front records ++ l) rest in
      elim (cases_eq gate 0x4a) [
        | inl opened ↦ inr (record {
          gate = 0;
          tail = staged.tail;
          split = whole ∙ ap (λ (g : ℕ). front records ++ g ∷ (body ++ 0 ∷ staged.tail)) opened ∙ sym (front-all records new body (0 ∷ staged.tail) first);
          sized = sized-all records new staged.sized sized;
          shut = λ is. absurd (omega (arith, is));
        })
        | inr shut ↦ inl (record { gate = gate; tail = body ++ 0 ∷ staged.tail; split = whole; sized = staged.sized; shut = shut })
      ]

  pub written_gate : (new : List (List ℕ)) (body file c : List ℕ) → 0x4a ∷ body ≡ blocks new → Sized new → Staged records body file → Written file (8 + 45 * count) (0x4a ∷ []) c → Rests (records ++ new) c
  written_gate new body file c first sized staged written =
      let at : ℕ = 8 + 45 * count in
      let size : length (front records) ≡ at = omega (arith, length-front records staged.sized, counts) in
      let start : take at file ≡ front records = ap (λ (l : List ℕ). take at l) staged.split ∙ take_at (front records) _ at size in
      let apart : file ≡ (front records ++ staged.gate ∷ []) ++ (body ++ 0 ∷ staged.tail) = staged.split ∙ sym (append_assoc (front records) (staged.gate ∷ []) (body ++ 0 ∷ staged.tail)) in
      let back : drop (at + 1) file ≡ body ++ 0 ∷ staged.tail = ap (λ (l : List ℕ). drop (at + 1) l) apart ∙ drop_at (front records ++ staged.gate ∷ []) (body ++ 0 ∷ staged.tail) (at + 1) (omega (arith, size, length-append (front records) (staged.gate ∷ []))) in
      record {
        gate = 0;
        tail = staged.tail;
        split = written
            ∙ ap (λ (l : List ℕ). l ++ (0x4a ∷ []) ++ drop (at + 1) file) start
            ∙ append_assoc (front records) (0x4a ∷ []) (drop (at + 1) file)
            ∙ ap (λ (l : List ℕ). front records ++ 0x4a ∷ l) back
            ∙ sym (front-all records new body (0 ∷ staged.tail) first);
        sized = sized-all records new staged.sized sized;
        shut = λ is. absurd (omega (arith, is));
      }

  pub body_crash : (n : ℕ) (file : List ℕ) (old new : List ℕ → Type 0) → Rests records file → Only file old → Follows (Torn (9 + 45 * count) n) old new → (c : List ℕ) → new c → Rests records c
  body_crash n file old new rests only follows c left =
      let from = follows c left in
      torn_body n file c rests (subst (λ f. Torn (9 + 45 * count) n f c) (only from.0 from.1) from.2)

  pub gate_crash : (more : List (List ℕ)) (body file : List ℕ) (old new : List ℕ → Type 0) → 0x4a ∷ body ≡ blocks more → Sized more → Staged records body file → Only file old → Follows (Torn (8 + 45 * count) 1) old new → (c : List ℕ) → new c → BeforeOrAll records more c
  gate_crash more body file old new first sized staged only follows c left =
      let from = follows c left in
      torn_gate more body file c first sized staged (subst (λ f. Torn (8 + 45 * count) 1 f c) (only from.0 from.1) from.2)

  pub rests_long : (file : List ℕ) → Rests records file → 8 + 45 * count < length file
  rests_long file rests =
      omega (arith, ap length rests.split, length-append (front records) (rests.gate ∷ rests.tail), length-front records rests.sized, counts)
