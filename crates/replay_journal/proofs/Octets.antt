-- A moment and a mark are read back from their octets.
use Rattle.std.proofs.Common.{◌≡◌, ℕ, ◌/◌, ◌%◌, ◌^◌, ◌<◌, List, [], ◌++◌, length, take, drop, refl, sym, ◌∙◌, ap, arith, append_assoc, length-append}
use Rattle.std.proofs.lemmas.List.{append-nil, take_at, drop_at}
use Rattle.std.proofs.lemmas.Nat.{from_be_bytes-to_be_bytes_8, from_be_bytes-to_be_bytes_4}
use Rattle.std.specs.Int.{w32, w64, from_be_bytes, to_be_bytes}
use Rattle.gss_base.specs.declared.mark.Mark.{Mark}
use Rattle.replay_journal.specs.Files.{moment_octets, moment_at, body_of, mark_in, greatest_in}

moment-back : (at : ℕ) (rest : List ℕ) → at / 1000000 < 2 ^ 64 → moment_at (moment_octets at ++ rest) ≡ at
moment-back at rest small =
    let high : from_be_bytes w64 (to_be_bytes w64 (at / 1000000)) ≡ at / 1000000 = from_be_bytes-to_be_bytes_8 (at / 1000000) small in
    let low : from_be_bytes w32 (to_be_bytes w32 (at % 1000000)) ≡ at % 1000000 = from_be_bytes-to_be_bytes_4 (at % 1000000) (omega arith) in
    rw (high, low) (omega arith)

pub mark-back : (mark : Mark) (greatest : ℕ) → length mark.who ≡ 20 → mark.at / 1000000 < 2 ^ 64 → mark_in (body_of mark greatest) ≡ mark
mark-back mark greatest size small =
    let whole : body_of mark greatest ≡ mark.who ++ (moment_octets mark.at ++ moment_octets greatest) = append_assoc mark.who (moment_octets mark.at) (moment_octets greatest) in
    let who : take 20 (body_of mark greatest) ≡ mark.who = ap (λ (l : List ℕ). take 20 l) whole ∙ take_at mark.who (moment_octets mark.at ++ moment_octets greatest) 20 size in
    let at : moment_at (drop 20 (body_of mark greatest)) ≡ mark.at = ap (λ (l : List ℕ). moment_at (drop 20 l)) whole
    ∙ ap moment_at (drop_at mark.who (moment_octets mark.at ++ moment_octets greatest) 20 size) ∙ moment-back mark.at (moment_octets greatest) small in
    (λ i. record { who = who i; at = at i })

pub greatest-back : (mark : Mark) (greatest : ℕ) → length mark.who ≡ 20 → greatest / 1000000 < 2 ^ 64 → greatest_in (body_of mark greatest) ≡ greatest
greatest-back mark greatest size small =
    let octets : length (moment_octets mark.at) ≡ 12 = refl in
    let front_ : length (mark.who ++ moment_octets mark.at) ≡ 32 = omega (arith, length-append mark.who (moment_octets mark.at), size, octets) in
    ap moment_at (drop_at (mark.who ++ moment_octets mark.at) (moment_octets greatest) 32 front_) ∙ ap moment_at (sym (append-nil (moment_octets greatest))) ∙ moment-back greatest [] small
