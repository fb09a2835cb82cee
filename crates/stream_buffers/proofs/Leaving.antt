-- What a link is let go with: what waited was written before, or a front of it.
use Rattle.std.proofs.Common.{◌≡◌, ◌≤◌, ℕ, Bool, List, [], ◌++◌, length, take, refl, sym, subst, arith, Result, Ok, Err, OnErr}
use Rattle.std.proofs.lemmas.List.{append-nil, take_all}
use Rattle.sec_base.specs.Answers.{Rose}
use Rattle.sec_base.specs.Link.{Wire, HasWritten}
use Rattle.sec_base.specs.Streams.{Sends}
use Rattle.stream_buffers.specs.Behind.{LetGo}

rose-on : (f g h : ℕ) → Rose f g → g ≤ h → Rose f h
rose-on f g h rose more = λ low. (let first = rose (omega (arith, more, low)) in omega (arith, first, more))

-- it was written to the link that was closed then
pub wrote-first : {T E : Type 0} (told : Bool) (a b c : Wire) (f g h : ℕ) (result : Result T E) (octets : List ℕ) → Sends told a b result octets → OnErr result (Rose f g) → g ≤ h → c ≡ b → LetGo told a c f h octets
wrote-first told a b c f g h (Ok t) octets sent rose more same = record {
  front = (length octets, subst (λ (w : Wire). HasWritten told a w (take (length octets) octets)) (sym same) (subst (HasWritten told a b) (sym (take_all (length octets) octets (omega arith))) sent));
  whole = λ none. subst (λ (w : Wire). HasWritten told a w octets) (sym same) sent;
}
wrote-first told a b c f g h (Err e) octets sent rose more same = record {
  front = (sent.0, subst (λ (w : Wire). HasWritten told a w (take sent.0 octets)) (sym same) sent.1);
  whole = λ none. absurd (none (rose-on f g h rose more));
}

none-written : (told : Bool) (a : Wire) → HasWritten told a a []
none-written told a = record {
  taken = refl;
  coming = λ tells. ([], sym (append-nil a.coming));
  written = sym (append-nil a.written);
}

-- none waited
pub none-waited : (told : Bool) (a c : Wire) (f h : ℕ) (octets : List ℕ) → octets ≡ [] → c ≡ a → LetGo told a c f h octets
none-waited told a c f h octets none same =
    subst (λ (xs : List ℕ). LetGo told a c f h xs) (sym none) (subst (λ (w : Wire). LetGo told a w f h []) (sym same) (record {
      front = (0, none-written told a);
      whole = λ rose. none-written told a;
    }))
