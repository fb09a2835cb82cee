-- The first token of an initiator is short.
use Rattle.std.proofs.Common.{◌≡◌, ℕ, ◌&&◌, Bool, true, false, refl, arith, List, [], ◌∷◌}
use Rattle.sec_base.specs.Oid.{is_oid}
use Rattle.sec_base.proofs.Cells as cells
use Rattle.der_core.specs.Values.{object_identifier}
use Rattle.der_core.specs.Fields.{many_spelling}
use Rattle.spnego_msgs.specs.Lists.{mech_types}
use Rattle.spnego_msgs.specs.NegInit.{spnego_identifier, neg_init}
use Rattle.spnego_core.specs.Tokens.{init_octets}
use Rattle.spnego_core.specs.Sizes.{IsShort, FitsBeside}
use Rattle.spnego_core.proofs.Sizes.{Within, more, none, both, element_within, string_within, oid_within}
use Rattle.spnego_core.specs.Choice.{are_few}
use Rattle.init_ends.specs.Objects.{are_oids}
use Rattle.init_ends.specs.Initiating.{first_sent}

first_of : (a b : Bool) → (a && b) ≡ true → a ≡ true
first_of true b e = refl
first_of false b e = e

last_of : (a b : Bool) → (a && b) ≡ true → b ≡ true
last_of true b e = e
last_of false b e = cc

own_within : (oid : List ℕ) → is_oid oid ≡ true → Within (object_identifier.spell oid) 38
own_within oid e = oid_within oid all
  where
    all : Within oid 32
    all = record { most = cells.oid_within oid e }

list_within : (list : List (List ℕ)) → are_few list ≡ true → are_oids list ≡ true → Within (many_spelling object_identifier list) 114
list_within [] c e = cc
list_within (only ∷ []) c e = more 114 (omega arith) (both (own_within only (first_of (is_oid only) true e)) none)
list_within (first ∷ second ∷ []) c e =
    let rest : (is_oid second && true) ≡ true = last_of (is_oid first) (is_oid second && true) e in
    more 114 (omega arith) (both (own_within first (first_of (is_oid first) (is_oid second && true) e)) (both (own_within second (first_of (is_oid second) true rest)) none))
list_within (first ∷ second ∷ third ∷ []) c e =
    let rest : (is_oid second && (is_oid third && true)) ≡ true = last_of (is_oid first) (is_oid second && (is_oid third && true)) e in
    let last : (is_oid third && true) ≡ true = last_of (is_oid second) (is_oid third && true) rest in
    more 114 (omega arith) (both (own_within first (first_of (is_oid first) (is_oid second && (is_oid third && true)) e)) (both (own_within second (first_of (is_oid second) (is_oid third && true) rest)) (both (own_within third (first_of (is_oid third) true last)) none)))
list_within (first ∷ second ∷ third ∷ fourth ∷ rest) c e = cc

pub first_short : (list : List (List ℕ)) (token : List ℕ) → are_few list ≡ true → are_oids list ≡ true → FitsBeside token → IsShort (init_octets (first_sent list token))
unfolding init_octets neg_init spnego_identifier mech_types
first_short list token c e h =
    let sent : Within token 61040 = record { most = h } in
    let name : Within (0x2b ∷ 6 ∷ 1 ∷ 5 ∷ 5 ∷ 2 ∷ []) 6 = record { most = omega arith } in
    let all : Within (init_octets (first_sent list token)) 61208 =
    more 61208 (omega arith) (element_within 0x60 (both (element_within 6 name) (element_within 0xa0 (element_within 0x30
    (both (element_within 0xa0 (element_within 0x30 (list_within list c e)))
    (both none
    (both (element_within 0xa2 (string_within token sent))
    (both none none)))))))) in
    omega (arith, all.most)
