-- Word after word of a command line.
use Rattle.std.proofs.Common.{◌≡◌, ℕ, ◌+◌, ◌-◌, ◌<◌, Bool, true, false, cond, ◌&&◌, eqb, List, length, take, drop, get_or, ap, sym, ◌∙◌, arith}
use Rattle.std.proofs.lemmas.Grind.{common_steps}
use Rattle.std.proofs.lemmas.List.{at_drop_more}
use lib.Pointwise.{pointwise}
use Rattle.cli_base.specs.Words.{is_one_of, may_stand, are_words}

all_behind : (words : List (List ℕ)) (at : ℕ) → take (length words - at) (drop at words) ≡ drop at words
all_behind words at = grind (arith, common_steps)

-- the next word is judged, and then those behind it
next_word : (names words : List (List ℕ)) (at : ℕ) (word given : List ℕ) (stands : Bool) → at < length words → word ≡ get_or words at word → given ≡ word → stands ≡ may_stand names given (take (length words - (at + 1)) (drop (at + 1) words)) → (stands && are_words names (drop (at + 1) words)) ≡ are_words names (drop at words)
next_word names words at word given stands lt is same judged =
    let one : stands ≡ may_stand names (get_or words at word) (drop (at + 1) words) = judged ∙ (ap (may_stand names given) (all_behind words (at + 1)) ∙ ap (λ (w : List ℕ). may_stand names w (drop (at + 1) words)) (same ∙ is)) in
    ap (λ (b : Bool). b && are_words names (drop (at + 1) words)) one ∙ sym (at_drop_more (are_words names) words at word lt)

-- it may stand there
pub goes_on : (names words : List (List ℕ)) (at : ℕ) (word given : List ℕ) → at < length words → word ≡ get_or words at word → given ≡ word → true ≡ may_stand names given (take (length words - (at + 1)) (drop (at + 1) words)) → are_words names (drop at words) ≡ are_words names words → are_words names (drop (at + 1) words) ≡ are_words names words
goes_on names words at word given lt is same judged before =
    next_word names words at word given true lt is same judged ∙ before

-- it may not
pub fails : (names words : List (List ℕ)) (at : ℕ) (word given : List ℕ) → at < length words → word ≡ get_or words at word → given ≡ word → false ≡ may_stand names given (take (length words - (at + 1)) (drop (at + 1) words)) → are_words names (drop at words) ≡ are_words names words → false ≡ are_words names words
fails names words at word given lt is same judged before =
    next_word names words at word given false lt is same judged ∙ before

-- the next of the words is compared, and then those behind it
next_one : (word : List ℕ) (words : List (List ℕ)) (at : ℕ) (one given : List ℕ) (equal : Bool) → at < length words → one ≡ get_or words at one → given ≡ one → equal ≡ pointwise eqb given word → cond equal true (is_one_of word (drop (at + 1) words)) ≡ is_one_of word (drop at words)
next_one word words at one given equal lt is same judged =
    ap (λ (b : Bool). cond b true (is_one_of word (drop (at + 1) words))) (judged ∙ ap (λ (w : List ℕ). pointwise eqb w word) (same ∙ is))
    ∙ sym (at_drop_more (is_one_of word) words at one lt)

-- it is the word
pub found : (word : List ℕ) (words : List (List ℕ)) (at : ℕ) (one given : List ℕ) → at < length words → one ≡ get_or words at one → given ≡ one → true ≡ pointwise eqb given word → is_one_of word (drop at words) ≡ is_one_of word words → true ≡ is_one_of word words
found word words at one given lt is same judged before = next_one word words at one given true lt is same judged ∙ before

-- it is another
pub passed : (word : List ℕ) (words : List (List ℕ)) (at : ℕ) (one given : List ℕ) → at < length words → one ≡ get_or words at one → given ≡ one → false ≡ pointwise eqb given word → is_one_of word (drop at words) ≡ is_one_of word words → is_one_of word (drop (at + 1) words) ≡ is_one_of word words
passed word words at one given lt is same judged before = next_one word words at one given false lt is same judged ∙ before
