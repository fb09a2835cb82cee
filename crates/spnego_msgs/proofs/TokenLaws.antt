-- Both tokens: what is read is spelled so, and what is spelled so is read.
use Rattle.std.proofs.Common.{◌≡◌, ℕ, true, eqb, inl, inr, List, [], ◌∷◌, Ok, refl, sym, ap, ◌∙◌, arith}
use Rattle.std.proofs.lemmas.Bool.{eqb-true}
use Rattle.der_core.specs.Format.{place}
use Rattle.der_core.specs.Element.{whole, plain, any_octets}
use Rattle.der_core.specs.Fields.{with_field, list_of}
use Rattle.der_core.specs.Values.{object_identifier}
use Rattle.der_core.specs.Law.{IsFormat, IsContent, HasTag}
use Rattle.der_core.proofs.Steps.{passed, chosen, ok_is, both, refused_is}
use Rattle.der_core.proofs.Laws.{element_law, element_tag, whole_law, explicit_law, explicit_tag, plain_law, guarded_law, done_law, done_from, field_law, optional_law, optional_from, seen_law, list_law}
use Rattle.der_core.proofs.SingleValues.{octet_string_law, object_identifier_law}
use Rattle.spnego_msgs.specs.declared.neg_state.NegState.{NegState}
use Rattle.spnego_msgs.specs.declared.neg_state.NegState.TheVariants.{Completed, Incomplete, Reject, RequestMic}
use Rattle.spnego_msgs.specs.Lists.{is_count, mech_types, list_octets}
use Rattle.spnego_msgs.specs.NegInit.{is_spnego, spnego_content, spnego_identifier, req_flags, neg_init_fields, neg_init_choice, neg_init}
use Rattle.spnego_msgs.specs.NegResp.{state_number, state_named, state_of, state_content, neg_state, neg_resp_fields, neg_resp}

-- ---- the list

object_identifier_tag : HasTag 6 object_identifier
unfolding object_identifier
object_identifier_tag = element_tag 6 _

oid_list_law : IsFormat (list_of object_identifier)
oid_list_law = list_law 6 object_identifier object_identifier_law object_identifier_tag

pub mech_types_law : IsFormat mech_types
unfolding mech_types
mech_types_law = guarded_law is_count (list_of object_identifier) oid_list_law

-- no two lists have the same octets
pub one_list : (xs ys : List (List ℕ)) → (list_of object_identifier).fits xs ≡ true → (list_of object_identifier).fits ys ≡ true → list_octets xs ≡ list_octets ys → xs ≡ ys
one_list xs ys has_xs has_ys same =
    let law = whole_law (list_of object_identifier) oid_list_law in
    let x = law.again 0 xs has_xs in
    let y = law.again 0 ys has_ys in
    ok_is xs ys (sym x ∙ ap (λ (os : List ℕ). (whole (list_of object_identifier)).read (record { end = 0; octets = os })) same ∙ y)

-- ---- NegTokenInit

spnego_is : (os : List ℕ) → is_spnego os ≡ true → os ≡ 0x2b ∷ 6 ∷ 1 ∷ 5 ∷ 5 ∷ 2 ∷ []
spnego_is [] e = absurd cc
spnego_is (a ∷ []) e = absurd cc
spnego_is (a ∷ b ∷ []) e = absurd cc
spnego_is (a ∷ b ∷ c ∷ []) e = absurd cc
spnego_is (a ∷ b ∷ c ∷ d ∷ []) e = absurd cc
spnego_is (a ∷ b ∷ c ∷ d ∷ x ∷ []) e = absurd cc
spnego_is (a ∷ b ∷ c ∷ d ∷ x ∷ f ∷ []) e =
    let p = both (eqb a 0x2b) _ e in
    let q = both (eqb b 6) _ p.1 in
    let r = both (eqb c 1) _ q.1 in
    let s = both (eqb d 5) _ r.1 in
    let t = both (eqb x 5) _ s.1 in
    rw (eqb-true a 0x2b p.0, eqb-true b 6 q.0, eqb-true c 1 r.0, eqb-true d 5 s.0, eqb-true x 5 t.0, eqb-true f 2 t.1) refl
spnego_is (a ∷ b ∷ c ∷ d ∷ x ∷ f ∷ g ∷ os) e = absurd cc

pub spnego_identifier_law : IsFormat spnego_identifier
unfolding spnego_identifier
spnego_identifier_law = element_law 6 spnego_content (record {
  takes = λ i v bytes e. (spnego_is i.octets (passed (is_spnego i.octets) _ _ v e).0, refl);
  again = λ end v fits. refl;
})

pub req_flags_law : IsFormat req_flags
unfolding req_flags
req_flags_law = element_law 3 (plain any_octets) (plain_law any_octets)

neg_init_fields_law : IsContent neg_init_fields
neg_init_fields_law =
    field_law _ _ (explicit_law 0xa0 _ mech_types_law)
    (optional_law 0xa1 _ _ (explicit_law 0xa1 _ req_flags_law) (explicit_tag 0xa1 _)
    (optional_law 0xa2 _ _ (explicit_law 0xa2 _ octet_string_law) (explicit_tag 0xa2 _)
    (optional_law 0xa3 _ _ (explicit_law 0xa3 _ octet_string_law) (explicit_tag 0xa3 _) done_law (done_from _))
    (optional_from _ 0xa3 _ _ (explicit_tag 0xa3 _) (omega arith) (done_from _)))
    (optional_from _ 0xa2 _ _ (explicit_tag 0xa2 _) (omega arith) (optional_from _ 0xa3 _ _ (explicit_tag 0xa3 _) (omega arith) (done_from _))))

neg_init_choice_law : IsContent neg_init_choice
neg_init_choice_law = whole_law _ (explicit_law 0xa0 _ (element_law 0x30 _ (seen_law _ _ neg_init_fields (λ v. refl) (λ t. refl) neg_init_fields_law)))

pub neg_init_law : IsContent neg_init
unfolding neg_init
neg_init_law = whole_law _ (element_law 0x60 _ (seen_law _ _ (with_field spnego_identifier neg_init_choice) (λ v. refl) (λ t. refl) (field_law _ _ spnego_identifier_law neg_init_choice_law)))

-- ---- NegTokenResp

state_named_is : (at n : ℕ) (s : NegState) → state_named at n ≡ Ok s → n ≡ state_number s
state_named_is at n s e =
    elim (chosen (eqb n 0) _ _ (Ok s) e) [
      | inl a ↦ eqb-true n 0 a.0 ∙ ap state_number (ok_is Completed s a.1)
      | inr a ↦ elim (chosen (eqb n 1) _ _ (Ok s) a.1) [
        | inl b ↦ eqb-true n 1 b.0 ∙ ap state_number (ok_is Incomplete s b.1)
        | inr b ↦ elim (chosen (eqb n 2) _ _ (Ok s) b.1) [
          | inl c ↦ eqb-true n 2 c.0 ∙ ap state_number (ok_is Reject s c.1)
          | inr c ↦ elim (chosen (eqb n 3) _ _ (Ok s) c.1) [
            | inl d ↦ eqb-true n 3 d.0 ∙ ap state_number (ok_is RequestMic s d.1)
            | inr d ↦ absurd (refused_is _ s d.1)
          ]
        ]
      ]
    ]

state_takes : (at : ℕ) (os : List ℕ) (s : NegState) → state_of at os ≡ Ok s → os ≡ state_number s ∷ []
state_takes at [] s e = absurd cc
state_takes at (n ∷ []) s e = ap (λ (o : ℕ). o ∷ []) (state_named_is at n s e)
state_takes at (a ∷ b ∷ os) s e = absurd cc

state_again : (at : ℕ) (s : NegState) → state_of at (state_number s ∷ []) ≡ Ok s
state_again at Completed = refl
state_again at Incomplete = refl
state_again at Reject = refl
state_again at RequestMic = refl

pub neg_state_law : IsFormat neg_state
unfolding neg_state
neg_state_law = element_law 0x0a state_content (record {
  takes = λ i v bytes e. (state_takes (place i) i.octets v e, refl);
  again = λ end v fits. state_again _ v;
})

neg_resp_fields_law : IsContent neg_resp_fields
neg_resp_fields_law =
    optional_law 0xa0 _ _ (explicit_law 0xa0 _ neg_state_law) (explicit_tag 0xa0 _)
    (optional_law 0xa1 _ _ (explicit_law 0xa1 _ object_identifier_law) (explicit_tag 0xa1 _)
    (optional_law 0xa2 _ _ (explicit_law 0xa2 _ octet_string_law) (explicit_tag 0xa2 _)
    (optional_law 0xa3 _ _ (explicit_law 0xa3 _ octet_string_law) (explicit_tag 0xa3 _) done_law (done_from _))
    (optional_from _ 0xa3 _ _ (explicit_tag 0xa3 _) (omega arith) (done_from _)))
    (optional_from _ 0xa2 _ _ (explicit_tag 0xa2 _) (omega arith) (optional_from _ 0xa3 _ _ (explicit_tag 0xa3 _) (omega arith) (done_from _))))
    (optional_from _ 0xa1 _ _ (explicit_tag 0xa1 _) (omega arith) (optional_from _ 0xa2 _ _ (explicit_tag 0xa2 _) (omega arith) (optional_from _ 0xa3 _ _ (explicit_tag 0xa3 _) (omega arith) (done_from _))))

pub neg_resp_law : IsContent neg_resp
unfolding neg_resp
neg_resp_law = whole_law _ (explicit_law 0xa1 _ (element_law 0x30 _ (seen_law _ _ neg_resp_fields (λ v. refl) (λ t. refl) neg_resp_fields_law)))
