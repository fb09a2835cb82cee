-- What is read of octets in DER is never refused for want of memory.
use Rattle.std.proofs.Common.{◌≡◌, ℕ, zero, suc, ◌-◌, Bool, true, false, cond, List, [], ◌∷◌, length, Option, Result, Ok, Err, refl}
use Rattle.sec_base.specs.Oid.{is_oid}
use Rattle.der_core.specs.declared.refusal.DerRefusal.{DerRefusal}
use Rattle.der_core.specs.declared.refusal.DerWhy.{DerWhy}
use Rattle.der_core.specs.declared.refusal.DerWhy.TheVariants.{Short, Tag, Length, NotShortest, Value, Trailing}
use Rattle.der_core.specs.Format.{Input, Format, Content, ◌>>=◌, refused, place}
use Rattle.der_core.specs.Header.{long_length_at, length_of, length_at, header_of, header_at, content_at, tlv_at, end_of, end_at}
use Rattle.der_core.specs.Element.{element, whole, explicit, plain, any_octets, guarded, kept, octet_string}
use Rattle.der_core.specs.Fields.{done, with_known, with_field, optional_at, with_optional_known, with_optional, seen, many_step, many_of, many, list_of}
use Rattle.der_core.specs.Values.{text, is_text, object_identifier, small_of, small_content, small, flags_of, flags_content, flags}
use Rattle.der_core.specs.Integer.{shortest_of, shortest_at, int32_at, int32_content, int32, natural_at, natural_content, natural}
use Rattle.der_core.specs.Time.{time_content, time}
use Rattle.ap_exchange.specs.Reasons.{der_wants_memory}

-- a reading has a reason where it refuses
unfoldable pub Clear : {A : Type 0} → Result A DerRefusal → Type 0
Clear (Ok v) = Unit {0}
Clear (Err e) = der_wants_memory e.why ≡ false

pub clear-ok : {A : Type 0} (v : A) → Clear (Ok v)
unfolding Clear
clear-ok v = tt

pub clear-refused : (A : Type 0) (why : DerWhy) (at : ℕ) → der_wants_memory why ≡ false → Clear {A = A} (refused why at)
unfolding Clear
clear-refused A why at h = h

pub clear-bind : {A B : Type 0} (r : Result A DerRefusal) (next : A → Result B DerRefusal) → Clear r → ((x : A) → Clear (next x)) → Clear (r >>= next)
unfolding Clear
clear-bind (Ok x) next h k = k x
clear-bind (Err e) next h k = h

pub clear-if : {A : Type 0} (b : Bool) (r s : Result A DerRefusal) → Clear r → Clear s → Clear (cond b r s)
clear-if true r s h k = h
clear-if false r s h k = k

-- ---- headers

end_of-clear : (i : Input) (octets : List ℕ) → Clear (end_of i octets)
end_of-clear i [] = clear-ok tt
end_of-clear i (o ∷ os) = clear-refused _ Trailing (place i) refl

pub end-clear : (i : Input) → Clear (end_at i)
unfolding end_at
end-clear i = end_of-clear i i.octets

long_length-clear : (at size : ℕ) (i : Input) → Clear (long_length_at at size i)
unfolding long_length_at
long_length-clear at size i = clear-if _ _ _ (clear-refused _ Short i.end refl) (clear-if _ _ _ (clear-ok _) (clear-refused _ NotShortest at refl))

length_of-clear : (i : Input) (octets : List ℕ) → Clear (length_of i octets)
length_of-clear i [] = clear-refused _ Short i.end refl
length_of-clear i (o ∷ os) =
    clear-if _ _ _ (clear-ok _) (clear-if _ _ _ (clear-refused _ Length (place i) refl) (long_length-clear (place i) (o - 128) (record { end = i.end; octets = os })))

length-clear : (i : Input) → Clear (length_at i)
unfolding length_at
length-clear i = length_of-clear i i.octets

header_of-clear : (tag : ℕ) (i : Input) (octets : List ℕ) → Clear (header_of tag i octets)
header_of-clear tag i [] = clear-refused _ Short i.end refl
header_of-clear tag i (o ∷ os) = clear-if _ _ _ (length-clear (record { end = i.end; octets = os })) (clear-refused _ Tag (place i) refl)

header-clear : (tag : ℕ) (i : Input) → Clear (header_at tag i)
unfolding header_at
header-clear tag i = header_of-clear tag i i.octets

content-clear : (size : ℕ) (i : Input) → Clear (content_at size i)
content-clear size i = clear-if _ _ _ (clear-refused _ Short i.end refl) (clear-ok _)

tlv-clear : (tag : ℕ) (i : Input) → Clear (tlv_at tag i)
unfolding tlv_at
tlv-clear tag i = clear-bind _ _ (header-clear tag i) (λ header. content-clear header.0 header.1)

-- ---- elements and fields

-- a format has a reason where it refuses
pub record ClearFormat {A : Type 0} (format : Format A) : Type 0 where
  pub clear : (i : Input) → Clear (format.read i)

-- the same of a content
pub record ClearContent {A : Type 0} (content : Content A) : Type 0 where
  pub clear : (i : Input) → Clear (content.read i)

pub element-clear : {A : Type 0} (tag : ℕ) (content : Content A) → ClearContent content → ClearFormat (element tag content)
element-clear tag content h = record {
  clear = λ i. clear-bind (tlv_at tag i) _ (tlv-clear tag i) (λ inner. clear-bind (content.read inner.0) _ (h.clear inner.0) (λ v. clear-ok (v, inner.1)));
}

pub whole-clear : {A : Type 0} (format : Format A) → ClearFormat format → ClearContent (whole format)
whole-clear format h = record {
  clear = λ i. clear-bind (format.read i) _ (h.clear i) (λ x. clear-bind (end_at x.1) _ (end-clear x.1) (λ nothing. clear-ok x.0));
}

pub explicit-clear : {A : Type 0} (tag : ℕ) (format : Format A) → ClearFormat format → ClearFormat (explicit tag format)
explicit-clear tag format h = element-clear tag (whole format) (whole-clear format h)

pub plain-clear : (test : List ℕ → Bool) → ClearContent (plain test)
plain-clear test = record {
  clear = λ i. clear-if (test i.octets) (Ok i.octets) _ (clear-ok i.octets) (clear-refused _ Value (place i) refl);
}

pub guarded-clear : {A : Type 0} (test : A → Bool) (format : Format A) → ClearFormat format → ClearFormat (guarded test format)
guarded-clear test format h = record {
  clear = λ i. clear-bind (format.read i) _ (h.clear i) (λ x. clear-if (test x.0) (Ok x) _ (clear-ok x) (clear-refused _ Value (place i) refl));
}

pub kept-clear : {A : Type 0} (format : Format A) → ClearFormat format → ClearFormat (kept format)
kept-clear format h = record { clear = λ i. clear-bind (format.read i) _ (h.clear i) (λ x. clear-ok _) }

pub done-clear : ClearContent done
done-clear = record { clear = end-clear }

pub known-clear : {A B : Type 0} (format : Format A) (fields : A → Content B) → ClearFormat format → ((v : A) → ClearContent (fields v)) → ClearContent (with_known format fields)
known-clear format fields h k = record {
  clear = λ i. clear-bind (format.read i) _ (h.clear i) (λ x. clear-bind ((fields x.0).read x.1) _ ((k x.0).clear x.1) (λ others. clear-ok (x.0, others)));
}

pub field-clear : {A B : Type 0} (format : Format A) (fields : Content B) → ClearFormat format → ClearContent fields → ClearContent (with_field format fields)
field-clear format fields h k = known-clear format (λ v. fields) h (λ v. k)

optional_at-clear : {A : Type 0} (tag : ℕ) (format : Format A) → ClearFormat format → (i : Input) → Clear (optional_at tag format i)
optional_at-clear tag format h i = clear-if _ _ _ (clear-bind (format.read i) _ (h.clear i) (λ x. clear-ok _)) (clear-ok _)

pub optional_known-clear : {A B : Type 0} (tag : ℕ) (format : Format A) (fields : Option A → Content B) → ClearFormat format → ((v : Option A) → ClearContent (fields v)) → ClearContent (with_optional_known tag format fields)
optional_known-clear tag format fields h k = record {
  clear = λ i. clear-bind (optional_at tag format i) _ (optional_at-clear tag format h i) (λ x. clear-bind ((fields x.0).read x.1) _ ((k x.0).clear x.1) (λ others. clear-ok (x.0, others)));
}

pub optional-clear : {A B : Type 0} (tag : ℕ) (format : Format A) (fields : Content B) → ClearFormat format → ClearContent fields → ClearContent (with_optional tag format fields)
optional-clear tag format fields h k = optional_known-clear tag format (λ v. fields) h (λ v. k)

pub seen-clear : {A B : Type 0} (to : A → B) (from : B → A) (content : Content A) → ClearContent content → ClearContent (seen to from content)
seen-clear to from content h = record { clear = λ i. clear-bind (content.read i) _ (h.clear i) (λ v. clear-ok (to v)) }

many_step-clear : {A : Type 0} (format : Format A) (others : Input → Result (List A) DerRefusal) → ClearFormat format → ((i : Input) → Clear (others i)) → (i : Input) (octets : List ℕ) → Clear (many_step format others i octets)
many_step-clear format others h k i [] = clear-ok []
many_step-clear format others h k i (o ∷ os) =
    clear-bind (format.read i) _ (h.clear i) (λ x. clear-bind (others x.1) _ (k x.1) (λ rest. clear-ok (x.0 ∷ rest)))

many_of-clear : {A : Type 0} (format : Format A) → ClearFormat format → (n : ℕ) (i : Input) → Clear (many_of format n i)
many_of-clear format h zero i = clear-bind (end_at i) _ (end-clear i) (λ nothing. clear-ok [])
many_of-clear format h (suc n) i = many_step-clear format (many_of format n) h (many_of-clear format h n) i i.octets

pub list-clear : {A : Type 0} (format : Format A) → ClearFormat format → ClearFormat (list_of format)
list-clear format h = element-clear 0x30 (many format) (record { clear = λ i. many_of-clear format h (length i.octets) i })

-- ---- values

pub text-clear : ClearFormat text
unfolding text
text-clear = element-clear 0x1b (plain is_text) (plain-clear is_text)

pub octet_string-clear : ClearFormat octet_string
unfolding octet_string
octet_string-clear = element-clear 4 (plain any_octets) (plain-clear any_octets)

pub object_identifier-clear : ClearFormat object_identifier
unfolding object_identifier
object_identifier-clear = element-clear 6 (plain is_oid) (plain-clear is_oid)

small_of-clear : (at : ℕ) (octets : List ℕ) → Clear (small_of at octets)
small_of-clear at [] = clear-refused _ Value at refl
small_of-clear at (o ∷ []) = clear-if _ _ _ (clear-ok o) (clear-refused _ Value at refl)
small_of-clear at (a ∷ b ∷ os) = clear-refused _ Value at refl

pub small-clear : ClearFormat small
unfolding small
small-clear = element-clear 0x0a small_content (record { clear = λ i. small_of-clear (place i) i.octets })

flags_of-clear : (at : ℕ) (octets : List ℕ) → Clear (flags_of at octets)
flags_of-clear at [] = clear-refused _ Value at refl
flags_of-clear at (u ∷ []) = clear-refused _ Value at refl
flags_of-clear at (u ∷ a ∷ []) = clear-refused _ Value at refl
flags_of-clear at (u ∷ a ∷ b ∷ []) = clear-refused _ Value at refl
flags_of-clear at (u ∷ a ∷ b ∷ c ∷ []) = clear-refused _ Value at refl
flags_of-clear at (u ∷ a ∷ b ∷ c ∷ d ∷ []) = clear-if _ _ _ (clear-ok _) (clear-refused _ Value at refl)
flags_of-clear at (u ∷ a ∷ b ∷ c ∷ d ∷ e ∷ os) = clear-refused _ Value at refl

pub flags-clear : ClearFormat flags
unfolding flags
flags-clear = element-clear 3 flags_content (record { clear = λ i. flags_of-clear (place i) i.octets })

shortest_of-clear : (i : Input) (octets : List ℕ) → Clear (shortest_of i octets)
shortest_of-clear i [] = clear-refused _ Value (place i) refl
shortest_of-clear i (o ∷ os) = clear-if _ _ _ (clear-refused _ NotShortest (place i) refl) (clear-ok (o ∷ os))

shortest-clear : (i : Input) → Clear (shortest_at i)
unfolding shortest_at
shortest-clear i = shortest_of-clear i i.octets

int32_at-clear : (i : Input) → Clear (int32_at i)
unfolding int32_at
int32_at-clear i = clear-bind (shortest_at i) _ (shortest-clear i) (λ octets. clear-if _ _ _ (clear-ok _) (clear-refused _ Value (place i) refl))

pub int32-clear : ClearFormat int32
unfolding int32
int32-clear = element-clear 2 int32_content (record { clear = int32_at-clear })

natural_at-clear : (low high : ℕ) (i : Input) → Clear (natural_at low high i)
unfolding natural_at
natural_at-clear low high i = clear-bind (shortest_at i) _ (shortest-clear i) (λ octets. clear-if _ _ _ (clear-ok _) (clear-refused _ Value (place i) refl))

pub natural-clear : (low high : ℕ) → ClearFormat (natural low high)
unfolding natural
natural-clear low high = element-clear 2 (natural_content low high) (record { clear = natural_at-clear low high })

pub time-clear : ClearFormat time
unfolding time
time-clear = element-clear 0x18 time_content (record { clear = λ i. clear-if _ _ _ (clear-ok _) (clear-refused _ Value (place i) refl) })
