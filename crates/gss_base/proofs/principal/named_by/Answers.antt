use Rattle.std.proofs.Common.{◌≡◌, [], Ok, Some, None, false, length, ◌≤◌, ap, arith, rules}
use Rattle.std.proofs.lemmas.Str.{IsUtf8-nil}
use Rattle.gss_base.specs.Principal.{zero_from}
use Rattle.gss_base.specs.Signs.{signs_of, parts_from, realm_of}
use Rattle.gss_base.proofs.Spelling.{utf8_of, parsed_is, parsed_zero}
use Rattle.gss_base.proofs.principal.named_by.Goals as goal

pub parts_in-requires : goal.parts_in-requires
parts_in-requires c =
    let read : signs_of false false 0 c.args.text.now ≡ Ok c.in_ok-signs.signs.items = rw (← c.as_bytes.ensures.value) c.in_ok-signs.ensures in
    rw c.as_slice.ensures.value ((utf8_of c.args.text.now 0 c.in_ok-signs.signs.items c.utf8.text read).parts [] IsUtf8-nil)

pub realm_in-requires : goal.realm_in-requires
realm_in-requires c =
    let read : signs_of false false 0 c.args.text.now ≡ Ok c.in_ok-signs.signs.items = rw (← c.as_bytes.ensures.value) c.in_ok-signs.ensures in
    rw c.as_slice-2.ensures.value ((utf8_of c.args.text.now 0 c.in_ok-signs.signs.items c.utf8.text read).realm)

pub returns-in-Some : goal.returns-in-Some
returns-in-Some c =
    let read : signs_of false false 0 c.args.text.now ≡ Ok c.in_ok-signs.signs.items = rw (← c.as_bytes.ensures.value) c.in_ok-signs.ensures in
    let parts : c.in_ok-parts.parts.items ≡ parts_from [] c.in_ok-signs.signs.items = rw c.as_slice.ensures.value at c.in_ok-parts.ensures in
    let few : length (parts_from [] c.in_ok-signs.signs.items) ≤ 8 = omega (arith, ap length parts) in
    let some : zero_from 0 c.args.text.now ≡ Some c.in-Some.at = cc in
    record { exact = λ _. parsed_zero c.args.text.now c.in_ok-signs.signs.items c.in-Some.at read few some }

pub returns : goal.returns
returns c =
    let read : signs_of false false 0 c.args.text.now ≡ Ok c.in_ok-signs.signs.items = rw (← c.as_bytes.ensures.value) c.in_ok-signs.ensures in
    let parts : c.in_ok-parts.parts.items ≡ parts_from [] c.in_ok-signs.signs.items = rw c.as_slice.ensures.value at c.in_ok-parts.ensures in
    let few : length (parts_from [] c.in_ok-signs.signs.items) ≤ 8 = omega (arith, ap length parts) in
    let none : zero_from 0 c.args.text.now ≡ None = search rules in
    let realm : c.as_str.result.now ≡ realm_of c.in_ok-signs.signs.items = search rules in
    let given : c.as_slice-3.result.now ≡ parts_from [] c.in_ok-signs.signs.items = cc in
    record { exact = rw (parsed_is c.args.text.now c.in_ok-signs.signs.items c.utf8.text read few none, ← realm, ← given) c.new.ensures }
