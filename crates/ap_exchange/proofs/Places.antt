-- The place of a refusal is at most the place behind the last octet that is read.
use Rattle.std.proofs.Common.{◌≡◌, ℕ, zero, suc, ◌-◌, ◌≤◌, Bool, true, false, cond, ltb, leb, eqb, ◌||◌, take, drop, List, [], ◌∷◌, length, Result, Ok, Err, arith}
use Rattle.gss_base.specs.Principal.{is_count, is_named}
use Rattle.der_core.specs.declared.refusal.DerRefusal.{DerRefusal}
use Rattle.der_core.specs.declared.refusal.DerWhy.TheVariants.{Short, Tag, Length, NotShortest, Value}
use Rattle.der_numbers.specs.Number.{natural_of, is_shortest_length}
use Rattle.der_core.specs.Format.{Input, Format, Content, all_of, place, refused, begins, ◌>>=◌}
use Rattle.der_core.specs.Header.{long_length_at, length_from, length_of, length_at, header_of, header_at, content_at, tlv_at, end_of, end_at}
use Rattle.der_core.specs.Element.{element, whole, explicit, plain, guarded, kept, any_octets, octet_string}
use Rattle.der_core.specs.Fields.{done, with_known, with_field, optional_at, with_optional, seen, many_step, many_of, many, list_of}
use Rattle.der_core.specs.Integer.{has_spare_octet, signed_of, is_natural, shortest_of, shortest_at, int32_at, int32, natural_at, natural}
use Rattle.der_core.specs.Values.{is_text, text, flags_of, flags}
use Rattle.krb_msgs.specs.Constant.{constant}
use Rattle.krb_msgs.specs.PrincipalName.{name_parts, principal_name_fields, principal_name, name_in}
use Rattle.krb_msgs.specs.EncryptedData.{encrypted_data_fields, encrypted_data}
use Rattle.krb_msgs.specs.Ticket.{ticket_fields, ticket_element}
use Rattle.krb_msgs.specs.ApReq.{ap_req_fields, ap_req_element, ap_req}

-- refused no later than here
abbrev Within : {A : Type 0} → ℕ → Result A DerRefusal → Type 0
Within end (Ok x) = Unit {0}
Within end (Err e) = e.at ≤ end

-- refused no later than here, and what is left ends no later
abbrev Leaves : {A : Type 0} → ℕ → Result (A × Input) DerRefusal → Type 0
Leaves end (Ok x) = x.1.end ≤ end
Leaves end (Err e) = e.at ≤ end

-- the same, and the content ends no later
abbrev Parts : ℕ → Result (Input × Input) DerRefusal → Type 0
Parts end (Ok x) = (x.0.end ≤ end) × (x.1.end ≤ end)
Parts end (Err e) = e.at ≤ end

record IsFront {A : Type 0} (f : Format A) : Type 0 where
  leaves : (end : ℕ) (i : Input) → i.end ≤ end → Leaves end (f.read i)

record IsAll {A : Type 0} (c : Content A) : Type 0 where
  within : (end : ℕ) (i : Input) → i.end ≤ end → Within end (c.read i)

within_bind : {A B : Type 0} (end : ℕ) (r : Result (A × Input) DerRefusal) (f : A × Input → Result B DerRefusal) → Leaves end r → ((x : A × Input) → x.1.end ≤ end → Within end (f x)) → Within end (r >>= f)
within_bind end (Ok x) f h next = next x h
within_bind end (Err e) f h next = h

within_then : {A B : Type 0} (end : ℕ) (r : Result A DerRefusal) (f : A → Result B DerRefusal) → Within end r → ((x : A) → Within end (f x)) → Within end (r >>= f)
within_then end (Ok x) f h next = next x
within_then end (Err e) f h next = h

leaves_bind : {A B : Type 0} (end : ℕ) (r : Result (A × Input) DerRefusal) (f : A × Input → Result (B × Input) DerRefusal) → Leaves end r → ((x : A × Input) → x.1.end ≤ end → Leaves end (f x)) → Leaves end (r >>= f)
leaves_bind end (Ok x) f h next = next x h
leaves_bind end (Err e) f h next = h

leaves_then : {A B : Type 0} (end : ℕ) (r : Result A DerRefusal) (f : A → Result (B × Input) DerRefusal) → Within end r → ((x : A) → Leaves end (f x)) → Leaves end (r >>= f)
leaves_then end (Ok x) f h next = next x
leaves_then end (Err e) f h next = h

parts_bind : {B : Type 0} (end : ℕ) (r : Result (Input × Input) DerRefusal) (f : Input × Input → Result (B × Input) DerRefusal) → Parts end r → ((x : Input × Input) → x.0.end ≤ end → x.1.end ≤ end → Leaves end (f x)) → Leaves end (r >>= f)
parts_bind end (Ok x) f h next = next x h.0 h.1
parts_bind end (Err e) f h next = h

within_if : {A : Type 0} (end : ℕ) (b : Bool) (x y : Result A DerRefusal) → Within end x → Within end y → Within end (cond b x y)
within_if end true x y h k = h
within_if end false x y h k = k

leaves_if : {A : Type 0} (end : ℕ) (b : Bool) (x y : Result (A × Input) DerRefusal) → Leaves end x → Leaves end y → Leaves end (cond b x y)
leaves_if end true x y h k = h
leaves_if end false x y h k = k

parts_if : (end : ℕ) (b : Bool) (x y : Result (Input × Input) DerRefusal) → Parts end x → Parts end y → Parts end (cond b x y)
parts_if end true x y h k = h
parts_if end false x y h k = k

place_le : (end : ℕ) (i : Input) → i.end ≤ end → place i ≤ end
place_le end i h = omega arith

-- ---- headers

long_leaves : (end at size : ℕ) (i : Input) → at ≤ end → i.end ≤ end → Leaves end (long_length_at at size i)
unfolding long_length_at
long_leaves end at size i a h =
    leaves_if end (ltb (length i.octets) size) (refused Short i.end) (cond (is_shortest_length (take size i.octets)) (Ok (natural_of (take size i.octets), record { end = i.end; octets = drop size i.octets })) (refused NotShortest at)) h
    (leaves_if end (is_shortest_length (take size i.octets)) (Ok (natural_of (take size i.octets), record { end = i.end; octets = drop size i.octets })) (refused NotShortest at) h a)

from_leaves : (end at first : ℕ) (rest : Input) → at ≤ end → rest.end ≤ end → Leaves end (length_from at first rest)
from_leaves end at first rest a h =
    let no_length : Result (ℕ × Input) DerRefusal = refused Length at in
    let long : Result (ℕ × Input) DerRefusal = long_length_at at (first - 128) rest in
    let none : Bool = eqb first 128 || ltb 132 first in
    leaves_if end (ltb first 128) (Ok (first, rest)) (cond none no_length long) h (leaves_if end none no_length long a (long_leaves end at (first - 128) rest a h))

length_leaves : (end : ℕ) (i : Input) (os : List ℕ) → i.end ≤ end → Leaves end (length_of i os)
length_leaves end i [] h = h
length_leaves end i (first ∷ rest) h = from_leaves end (place i) first (record { end = i.end; octets = rest }) (place_le end i h) h

header_leaves : (end tag : ℕ) (i : Input) (os : List ℕ) → i.end ≤ end → Leaves end (header_of tag i os)
unfolding length_at
header_leaves end tag i [] h = h
header_leaves end tag i (first ∷ rest) h =
    leaves_if end (eqb first tag) (length_of (record { end = i.end; octets = rest }) rest) (refused Tag (place i)) (length_leaves end (record { end = i.end; octets = rest }) rest h) (place_le end i h)

content_parts : (end size : ℕ) (i : Input) → i.end ≤ end → Parts end (content_at size i)
content_parts end size i h =
    let inner : i.end - (length i.octets - size) ≤ end = omega arith in
    parts_if end (ltb (length i.octets) size) (refused Short i.end) (Ok (record { end = i.end - (length i.octets - size); octets = take size i.octets }, record { end = i.end; octets = drop size i.octets })) h (inner, h)

bind_parts : (end : ℕ) (r : Result (ℕ × Input) DerRefusal) → Leaves end r → Parts end (r >>= (λ header. content_at header.0 header.1))
bind_parts end (Ok x) h = content_parts end x.0 x.1 h
bind_parts end (Err e) h = h

tlv_parts : (end tag : ℕ) (i : Input) → i.end ≤ end → Parts end (tlv_at tag i)
unfolding tlv_at header_at
tlv_parts end tag i h = bind_parts end (header_of tag i i.octets) (header_leaves end tag i i.octets h)

end_within : (end : ℕ) (i : Input) (os : List ℕ) → i.end ≤ end → Within end (end_of i os)
end_within end i [] h = tt
end_within end i (o ∷ os) h = place_le end i h

-- ---- formats

all_done : IsAll done
unfolding end_at
all_done = record { within = λ end i h. end_within end i i.octets h }

front_element : {A : Type 0} (tag : ℕ) (c : Content A) → IsAll c → IsFront (element tag c)
front_element tag c all = record {
  leaves = λ end i h. parts_bind end (tlv_at tag i) _ (tlv_parts end tag i h) (λ x inner rest. leaves_then end (c.read x.0) _ (all.within end x.0 inner) (λ v. rest));
}

all_whole : {A : Type 0} (f : Format A) → IsFront f → IsAll (whole f)
unfolding end_at
all_whole f front = record {
  within = λ end i h. within_bind end (f.read i) _ (front.leaves end i h) (λ x left. within_then end (end_of x.1 x.1.octets) _ (end_within end x.1 x.1.octets left) (λ nothing. tt));
}

front_explicit : {A : Type 0} (tag : ℕ) (f : Format A) → IsFront f → IsFront (explicit tag f)
front_explicit tag f front = front_element tag (whole f) (all_whole f front)

all_plain : (test : List ℕ → Bool) → IsAll (plain test)
all_plain test = record { within = λ end i h. within_if end (test i.octets) (Ok i.octets) (refused Value (place i)) tt (place_le end i h) }

front_guarded : {A : Type 0} (test : A → Bool) (f : Format A) → IsFront f → IsFront (guarded test f)
front_guarded test f front = record {
  leaves = λ end i h. leaves_bind end (f.read i) _ (front.leaves end i h) (λ x left. leaves_if end (test x.0) (Ok x) (refused Value (place i)) left (place_le end i h));
}

front_kept : {A : Type 0} (f : Format A) → IsFront f → IsFront (kept f)
front_kept f front = record {
  leaves = λ end i h. leaves_bind end (f.read i) _ (front.leaves end i h) (λ x left. left);
}

all_known : {A B : Type 0} (f : Format A) (c : A → Content B) → IsFront f → ((v : A) → IsAll (c v)) → IsAll (with_known f c)
all_known f c front all = record {
  within = λ end i h. within_bind end (f.read i) _ (front.leaves end i h) (λ x left. within_then end ((c x.0).read x.1) _ ((all x.0).within end x.1 left) (λ others. tt));
}

all_field : {A B : Type 0} (f : Format A) (c : Content B) → IsFront f → IsAll c → IsAll (with_field f c)
all_field f c front all = all_known f (λ v. c) front (λ v. all)

optional_leaves : {A : Type 0} (tag : ℕ) (f : Format A) → IsFront f → (end : ℕ) (i : Input) → i.end ≤ end → Leaves end (optional_at tag f i)
optional_leaves tag f front end i h =
    leaves_if end (begins tag i.octets) _ _ (leaves_bind end (f.read i) _ (front.leaves end i h) (λ x left. left)) h

all_optional : {A B : Type 0} (tag : ℕ) (f : Format A) (c : Content B) → IsFront f → IsAll c → IsAll (with_optional tag f c)
all_optional tag f c front all = record {
  within = λ end i h. within_bind end (optional_at tag f i) _ (optional_leaves tag f front end i h) (λ x left. within_then end (c.read x.1) _ (all.within end x.1 left) (λ others. tt));
}

all_seen : {A B : Type 0} (to : A → B) (from : B → A) (c : Content A) → IsAll c → IsAll (seen to from c)
all_seen to from c all = record { within = λ end i h. within_then end (c.read i) _ (all.within end i h) (λ v. tt) }

step_within : {A : Type 0} (f : Format A) (others : Input → Result (List A) DerRefusal) → IsFront f → (end : ℕ) → ((i : Input) → i.end ≤ end → Within end (others i)) → (i : Input) (os : List ℕ) → i.end ≤ end → Within end (many_step f others i os)
step_within f others front end next i [] h = tt
step_within f others front end next i (o ∷ os) h =
    within_bind end (f.read i) _ (front.leaves end i h) (λ x left. within_then end (others x.1) _ (next x.1 left) (λ rest. tt))

many_within : {A : Type 0} (f : Format A) → IsFront f → (n end : ℕ) (i : Input) → i.end ≤ end → Within end (many_of f n i)
unfolding end_at
many_within f front zero end i h = within_then end (end_of i i.octets) _ (end_within end i i.octets h) (λ nothing. tt)
many_within f front (suc n) end i h = step_within f (many_of f n) front end (λ j left. many_within f front n end j left) i i.octets h

front_list : {A : Type 0} (f : Format A) → IsFront f → IsFront (list_of f)
front_list f front = front_element 0x30 (many f) (record { within = λ end i h. many_within f front (length i.octets) end i h })

-- ---- values

shortest_within : (end : ℕ) (i : Input) (os : List ℕ) → i.end ≤ end → Within end (shortest_of i os)
shortest_within end i [] h = place_le end i h
shortest_within end i (o ∷ os) h = within_if end (has_spare_octet (o ∷ os)) (refused NotShortest (place i)) (Ok (o ∷ os)) (place_le end i h) tt

int32_within : (end : ℕ) (i : Input) → i.end ≤ end → Within end (int32_at i)
unfolding int32_at shortest_at
int32_within end i h = within_then end (shortest_of i i.octets) _ (shortest_within end i i.octets h) (λ octets. within_if end (leb (length octets) 4) (Ok (signed_of octets)) (refused Value (place i)) tt (place_le end i h))

natural_within : (low high end : ℕ) (i : Input) → i.end ≤ end → Within end (natural_at low high i)
unfolding natural_at shortest_at
natural_within low high end i h = within_then end (shortest_of i i.octets) _ (shortest_within end i i.octets h) (λ octets. within_if end (is_natural low high octets) (Ok (natural_of octets)) (refused Value (place i)) tt (place_le end i h))

front_int32 : IsFront int32
unfolding int32
front_int32 = front_element 2 _ (record { within = int32_within })

front_natural : (low high : ℕ) → IsFront (natural low high)
unfolding natural
front_natural low high = front_element 2 _ (record { within = natural_within low high })

front_constant : (n : ℕ) → IsFront (constant n)
front_constant n = record {
  leaves = λ end i h. leaves_bind end ((natural n n).read i) _ ((front_natural n n).leaves end i h) (λ x left. left);
}

front_text : IsFront text
unfolding text
front_text = front_element 0x1b _ (all_plain is_text)

front_octets : IsFront octet_string
unfolding octet_string
front_octets = front_element 4 _ (all_plain any_octets)

flags_within : (end at : ℕ) (os : List ℕ) → at ≤ end → Within end (flags_of at os)
flags_within end at [] h = h
flags_within end at (u ∷ []) h = h
flags_within end at (u ∷ a ∷ []) h = h
flags_within end at (u ∷ a ∷ b ∷ []) h = h
flags_within end at (u ∷ a ∷ b ∷ c ∷ []) h = h
flags_within end at (u ∷ a ∷ b ∷ c ∷ d ∷ []) h = within_if end (eqb u 0) (Ok (natural_of (a ∷ b ∷ c ∷ d ∷ []))) (refused Value at) tt h
flags_within end at (u ∷ a ∷ b ∷ c ∷ d ∷ e ∷ os) h = h

front_flags : IsFront flags
unfolding flags
front_flags = front_element 3 _ (record { within = λ end i h. flags_within end (place i) i.octets (place_le end i h) })

-- ---- messages

front_parts : IsFront name_parts
unfolding name_parts
front_parts = front_guarded is_count (list_of text) (front_list text front_text)

front_name : IsFront principal_name
unfolding principal_name
front_name = front_element 0x30 _ (all_seen _ _ principal_name_fields
    (all_field _ _ (front_explicit 0xa0 _ front_int32) (all_field _ _ (front_explicit 0xa1 _ front_parts) all_done)))

front_name_in : (realm : List ℕ) → IsFront (name_in realm)
front_name_in realm = front_guarded (λ n. is_named realm n.name_string) principal_name front_name

front_data : IsFront encrypted_data
unfolding encrypted_data
front_data = front_element 0x30 _ (all_seen _ _ encrypted_data_fields
    (all_field _ _ (front_explicit 0xa0 _ front_int32) (all_optional 0xa1 _ _ (front_explicit 0xa1 _ (front_natural 0 4294967295)) (all_field _ _ (front_explicit 0xa2 _ front_octets) all_done))))

front_ticket : IsFront ticket_element
unfolding ticket_element
front_ticket = front_explicit 0x61 _ (front_element 0x30 _ (all_seen _ _ ticket_fields
    (all_field _ _ (front_explicit 0xa0 _ (front_constant 5)) (all_known _ _ (front_explicit 0xa1 _ front_text) (λ realm. all_field _ _ (front_explicit 0xa2 _ (front_name_in realm)) (all_field _ _ (front_explicit 0xa3 _ front_data) all_done))))))

front_request : IsFront ap_req_element
unfolding ap_req_element
front_request = front_explicit 0x6e _ (front_element 0x30 _ (all_seen _ _ ap_req_fields
    (all_field _ _ (front_explicit 0xa0 _ (front_constant 5)) (all_field _ _ (front_explicit 0xa1 _ (front_constant 14)) (all_field _ _ (front_explicit 0xa2 _ front_flags) (all_field _ _ (front_explicit 0xa3 _ (front_kept ticket_element front_ticket)) (all_field _ _ (front_explicit 0xa4 _ front_data) all_done)))))))

refused_within : {A : Type 0} (end : ℕ) (r : Result A DerRefusal) (e : DerRefusal) → Within end r → r ≡ Err e → e.at ≤ end
refused_within end (Ok x) e h is = absurd cc
refused_within end (Err d) e h is = (let same : d ≡ e = cc in rw (← same) h)

-- a request is refused within its octets
pub request_within : (octets : List ℕ) (e : DerRefusal) → ap_req.read (all_of octets) ≡ Err e → e.at ≤ length octets
request_within octets e is =
    refused_within (length octets) (ap_req.read (all_of octets)) e ((all_whole ap_req_element front_request).within (length octets) (all_of octets) (omega arith)) is
