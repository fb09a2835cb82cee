use Rattle.std.proofs.Common.{◌≡◌, ◌∙◌, true, List, ℕ, subst}
use Rattle.std.specs.Str.{is_utf8}
use Rattle.std.proofs.lemmas.Str.{is_utf8-from_IsUtf8}
use Rattle.accept_book.specs.Honest.{IsOctets}
use Rattle.pair_laws.proofs.told.tell_name.Goals as goal

pub returns : goal.returns
returns c = record {
  size = c.text-text.ensures.most;
  text = subst (λ (xs : List ℕ). is_utf8 xs ≡ true) c.text-text.ensures.value (is_utf8-from_IsUtf8 c.text-text.result.now c.text-text.utf8);
  octets = subst (λ (xs : List ℕ). IsOctets xs) (c.as_bytes.ensures.value ∙ c.text-text.ensures.value) c.tell_octets.ensures;
}
