-- A sealed token that is made behind other octets.
use Rattle.std.proofs.Common.{◌≡◌, ℕ, ◌+◌, ◌≤◌, ◌∙◌, true, refl, ap, arith, List, ◌++◌, length, take, drop}
use Rattle.std.proofs.lemmas.List.{length-append, take_at, drop_at, append_assoc}
use Rattle.krb_derive.specs.Sealing.{seal_of}
use Rattle.krb_tokens.specs.declared.end.TokenEnd.{TokenEnd}
use Rattle.krb_tokens.specs.End.{seal_usage}
use Rattle.krb_tokens.specs.Wrap.{wrap_header, sealed_body, wrap_of}

-- there is a confounder behind the header
pub room_behind : (confounder plain one two : List ℕ) → length confounder ≡ 16 → two ≡ one ++ (confounder ++ plain) → length one + 16 ≤ length two
room_behind confounder plain one two block e =
    omega (arith, ap length e, length-append one (confounder ++ plain), length-append confounder plain)

-- the octets, the header, and what was sealed behind it
pub wrapped_behind : (end : TokenEnd) (number : ℕ) (confounder octets list header one two out : List ℕ) → length confounder ≡ 16
    → header ≡ wrap_header end true 0 0 number → one ≡ list ++ header → two ≡ one ++ (confounder ++ (octets ++ header))
    → out ≡ take (length one) two ++ seal_of end.key (seal_usage end.side) (take 16 (drop (length one) two)) (drop 16 (drop (length one) two))
    → out ≡ list ++ wrap_of end number true confounder octets
unfolding wrap_of sealed_body
wrapped_behind end number confounder octets list header one two out block eh e1 e2 eo =
    let plain : List ℕ = octets ++ header in
    let front : take (length one) (one ++ (confounder ++ plain)) ≡ one = take_at one (confounder ++ plain) (length one) refl in
    let rest : drop (length one) (one ++ (confounder ++ plain)) ≡ confounder ++ plain = drop_at one (confounder ++ plain) (length one) refl in
    let first : take 16 (confounder ++ plain) ≡ confounder = take_at confounder plain 16 block in
    let others : drop 16 (confounder ++ plain) ≡ plain = drop_at confounder plain 16 block in
    eo ∙ rw (e2, front, rest, first, others, e1, eh)
    (append_assoc list (wrap_header end true 0 0 number) (seal_of end.key (seal_usage end.side) confounder (octets ++ wrap_header end true 0 0 number)))
