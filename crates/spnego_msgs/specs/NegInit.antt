-- NegTokenInit, RFC 4178 section 4.2.1, in the frame of RFC 2743 section 3.1.
use Rattle.std.specs.Prelude.{ℕ, Bool, true, false, ◌==◌, ◌&&◌, if◌then◌else◌, List, [], ◌∷◌}
use Rattle.std.specs.Prelude.{Option, Ok}
use Rattle.der_core.specs.declared.refusal.DerWhy.TheVariants.{Value}
use Rattle.der_core.specs.Format.{Format, Content, place, refused}
use Rattle.der_core.specs.Element.{element, whole, explicit, plain, any_octets, octet_string}
use Rattle.der_core.specs.Fields.{done, with_field, with_optional, seen}
use Rattle.spnego_msgs.specs.Lists.{mech_types}
use Rattle.spnego_msgs.specs.declared.neg_init.NegInit.{NegInit}

-- whether the octets are the content of 1.3.6.1.5.5.2
abbrev pub is_spnego : List ℕ → Bool
is_spnego (a ∷ b ∷ c ∷ d ∷ e ∷ f ∷ []) =
    (a == 0x2b) && ((b == 6) && ((c == 1) && ((d == 5) && ((e == 5) && (f == 2)))))
is_spnego octets = false

-- that content, and nothing to say of it
abbrev pub spnego_content : Content (Unit {0})
spnego_content = record {
  read = λ i. if is_spnego i.octets then Ok tt else refused Value (place i);
  spell = λ nothing. 0x2b ∷ 6 ∷ 1 ∷ 5 ∷ 5 ∷ 2 ∷ [];
  fits = λ nothing. true;
}

-- the object identifier of SPNEGO
unfoldable pub spnego_identifier : Format (Unit {0})
spnego_identifier = element 6 spnego_content

-- ContextFlags: a BIT STRING, its content as it stands
unfoldable pub req_flags : Format (List ℕ)
req_flags = element 3 (plain any_octets)

-- mechTypes [0], reqFlags [1] OPTIONAL, mechToken [2] OPTIONAL, mechListMIC [3] OPTIONAL
abbrev pub neg_init_fields : Content
    (List (List ℕ) × (Option (List ℕ) × (Option (List ℕ) × (Option (List ℕ) × Unit {0}))))
neg_init_fields =
    with_field (explicit 0xa0 mech_types)
    (with_optional 0xa1 (explicit 0xa1 req_flags)
    (with_optional 0xa2 (explicit 0xa2 octet_string)
    (with_optional 0xa3 (explicit 0xa3 octet_string)
    done)))

-- NegotiationToken ::= CHOICE negTokenInit [0]
abbrev pub neg_init_choice : Content NegInit
neg_init_choice = whole (explicit 0xa0 (element 0x30 (seen
    (λ v. record { list = v.0; flags = v.1.0; token = v.1.1.0; mic = v.1.1.1.0 })
    (λ t. (t.list, (t.flags, (t.token, (t.mic, tt)))))
    neg_init_fields)))

-- the frame with the identifier of SPNEGO, and the token in it
unfoldable pub neg_init : Content NegInit
neg_init = whole
    (element 0x60 (seen (λ v. v.1) (λ t. (tt, t)) (with_field spnego_identifier neg_init_choice)))
