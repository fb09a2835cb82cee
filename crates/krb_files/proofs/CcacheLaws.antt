-- A credential cache is read as its grammar spells it.
use Rattle.std.proofs.Common.{◌≡◌, ℕ, zero, suc, ◌<◌, Bool, true, false, cond, ◌==◌, nat_le, inl, inr, List, [], ◌∷◌, ◌++◌, length, Option, Some, None, Result, Ok, refl, sym, ap, subst, ◌∙◌, arith, length-append}
use Rattle.gss_base.specs.Name.{Name}
use Rattle.krb_derive.specs.declared.key.Key.{Key}
use Rattle.krb_files.specs.declared.refusal.FileRefusal.{FileRefusal}
use Rattle.krb_files.specs.declared.pieces.Next.{Next}
use Rattle.krb_files.specs.declared.pieces.Next.TheVariants.{End, Other, Item}
use Rattle.krb_files.specs.declared.fields.Bounds.TheVariants.{File}
use Rattle.krb_files.specs.Fields.{Input, ◌>>=◌, place, number_at, counted_at, passed_at, magic_at}
use Rattle.krb_files.specs.Names.{principal_at}
use Rattle.krb_files.specs.Keys.{key_at}
use Rattle.krb_files.specs.Pieces.{all_of}
use Rattle.krb_files.specs.Granted.{Kept, Cache}
use Rattle.krb_files.specs.Ccache.{name_at, typed_at, times_typed_at, list_at, end_at, ticket_at, kept_of, credential_at, next_at, ccache_of}
use Rattle.krb_files.specs.Grammar.{Then, Gives, Number, Counted, Passed, Principal, KeyField, Body}
use Rattle.krb_files.specs.CcacheGrammar.{CacheName, Typed, TimesTyped, TypedList, EndField, TicketField, Credential, NoOctets, Credentials, SpellsCcache}
use Rattle.krb_files.proofs.Laws.{Law, Taken, stands, bind_ok, ok_is, then_law, gives_law, number_law, counted_law, passed_law}
use Rattle.krb_files.proofs.FieldLaws.{principal_law, key_law}
use Rattle.krb_files.proofs.WholeLaws.{WholeLaw, StepLaw, then_whole, body_found, body_only, magic_found}
use Rattle.krb_files.proofs.KeytabLaws.{chosen, no_octets, is_none, not_zero, some_octets}

name_law : Law name_at CacheName
unfolding name_at
name_law = then_law (number_at 4) (Number 4) (λ i kind j. principal_at 4 (place i) j) (λ kind. Principal 4) (number_law 4) (λ i kind. principal_law 4 (place i))

typed_law : Law typed_at Typed
unfolding typed_at
typed_law =
    then_law (number_at 2) (Number 2) (λ i kind j. counted_at 4 j >>= (λ octets. Ok (tt, octets.1))) (λ kind. Then (Counted 4) (λ octets. Gives tt)) (number_law 2)
    (λ i kind. then_law (counted_at 4) (Counted 4) (λ j octets k. Ok (tt, k)) (λ octets. Gives tt) (counted_law 4) (λ j octets. gives_law tt))

times_typed_law : (n : ℕ) → Law (times_typed_at n) (TimesTyped n)
unfolding times_typed_at
times_typed_law zero = gives_law tt
times_typed_law (suc n) = then_law typed_at Typed (λ i one j. times_typed_at n j) (λ one. TimesTyped n) typed_law (λ i one. times_typed_law n)

list_law : Law list_at TypedList
unfolding list_at
list_law = then_law (number_at 4) (Number 4) (λ i count j. times_typed_at count j) TimesTyped (number_law 4) (λ i count. times_typed_law count)

end_law : Law end_at EndField
unfolding end_at
end_law =
    then_law (passed_at 8) (Passed 8) (λ i before j. number_at 4 j >>= (λ ends. passed_at 9 ends.1 >>= (λ behind. Ok (ends.0, behind.1)))) (λ before. Then (Number 4) (λ ends. Then (Passed 9) (λ behind. Gives ends)))
    (passed_law 8)
    (λ i before. then_law (number_at 4) (Number 4) (λ j ends k. passed_at 9 k >>= (λ behind. Ok (ends, behind.1))) (λ ends. Then (Passed 9) (λ behind. Gives ends))
    (number_law 4)
    (λ j ends. then_law (passed_at 9) (Passed 9) (λ k behind l. Ok (ends, l)) (λ behind. Gives ends) (passed_law 9) (λ k behind. gives_law ends)))

ticket_law : Law ticket_at TicketField
unfolding ticket_at
ticket_law =
    then_law list_at TypedList
    (λ j addresses k. list_at k >>= (λ authorization. counted_at 4 authorization.1 >>= (λ ticket. counted_at 4 ticket.1 >>= (λ second. Ok (ticket.0, second.1)))))
    (λ addresses. Then TypedList (λ authorization. Then (Counted 4) (λ ticket. Then (Counted 4) (λ second. Gives ticket))))
    list_law
    (λ j addresses. then_law list_at TypedList
    (λ k authorization l. counted_at 4 l >>= (λ ticket. counted_at 4 ticket.1 >>= (λ second. Ok (ticket.0, second.1))))
    (λ authorization. Then (Counted 4) (λ ticket. Then (Counted 4) (λ second. Gives ticket)))
    list_law
    (λ k authorization. then_law (counted_at 4) (Counted 4) (λ l ticket m. counted_at 4 m >>= (λ second. Ok (ticket, second.1))) (λ ticket. Then (Counted 4) (λ second. Gives ticket))
    (counted_law 4)
    (λ l ticket. then_law (counted_at 4) (Counted 4) (λ m second n. Ok (ticket, n)) (λ second. Gives ticket) (counted_law 4) (λ m second. gives_law ticket))))

abbrev step : Next Kept → Input → Result (Next Kept × Input) FileRefusal
step next i = Ok (next, i)

credential_law : Law credential_at Credential
unfolding credential_at
credential_law =
    then_law name_at CacheName
    (λ i client j. name_at j >>= (λ server. key_at 4 server.1 >>= (λ key. end_at key.1 >>= (λ ends. ticket_at ends.1 >>= (λ ticket. step (kept_of client server.0 key.0 ends.0 ticket.0) ticket.1)))))
    (λ client. Then CacheName (λ server. Then (KeyField 4) (λ key. Then EndField (λ ends. Then TicketField (λ ticket. Gives (kept_of client server key ends ticket))))))
    name_law
    (λ i client. then_law name_at CacheName
    (λ j server k. key_at 4 k >>= (λ key. end_at key.1 >>= (λ ends. ticket_at ends.1 >>= (λ ticket. step (kept_of client server key.0 ends.0 ticket.0) ticket.1))))
    (λ server. Then (KeyField 4) (λ key. Then EndField (λ ends. Then TicketField (λ ticket. Gives (kept_of client server key ends ticket)))))
    name_law
    (λ j server. then_law (key_at 4) (KeyField 4)
    (λ k key l. end_at l >>= (λ ends. ticket_at ends.1 >>= (λ ticket. step (kept_of client server key ends.0 ticket.0) ticket.1)))
    (λ key. Then EndField (λ ends. Then TicketField (λ ticket. Gives (kept_of client server key ends ticket))))
    (key_law 4)
    (λ k key. then_law end_at EndField
    (λ l ends m. ticket_at m >>= (λ ticket. step (kept_of client server key ends ticket.0) ticket.1))
    (λ ends. Then TicketField (λ ticket. Gives (kept_of client server key ends ticket)))
    end_law
    (λ l ends. then_law ticket_at TicketField (λ m ticket n. step (kept_of client server key ends ticket) n) (λ ticket. Gives (kept_of client server key ends ticket)) ticket_law
    (λ m ticket. gives_law (kept_of client server key ends ticket))))))

kept_never : (test : Bool) (kept : Kept) → End ≡ cond test (Item kept) Other → ⊥
kept_never true kept e = cc
kept_never false kept e = cc

never_ends : (client server : Name) (key : Option Key) (ends : ℕ) (ticket octets : List ℕ) → Gives (kept_of client server key ends ticket) End octets → ⊥
never_ends client server None ends ticket octets g = let e = g.value in cc
never_ends client server (Some session) ends ticket octets g = kept_never (nat_le (length ticket) 60000) _ g.value

never : (octets : List ℕ) → Credential End octets → ⊥
never octets t =
    let u = t.goes_on in
    let v = u.goes_on in
    let w = v.goes_on in
    let x = w.goes_on in
    never_ends t.value u.value v.value w.value x.value x.back x.goes_on

abbrev FoundNext : Input → Input → Next Kept → Type 0
FoundNext i j End = i.octets ≡ []
FoundNext i j Other = Taken Credential Other i j
FoundNext i j (Item granted) = Taken Credential (Item granted) i j

found_none : (i j : Input) (next : Next Kept) → i.octets ≡ [] → step End i ≡ step next j → FoundNext i j next
found_none i j next none e =
    let end : Next Kept × Input = (End, i) in
    let same = ok_is end (next, j) e in
    let ends : FoundNext i j End = none in
    subst (λ (n : Next Kept). FoundNext i j n) (ap (λ p. p.0) same) ends

found_some : (i j : Input) (next : Next Kept) → Taken Credential next i j → FoundNext i j next
found_some i j End t = absurd (never t.front t.spells)
found_some i j Other t = t
found_some i j (Item granted) t = t

next_found : (i j : Input) (next : Next Kept) → next_at i ≡ step next j → FoundNext i j next
unfolding next_at
next_found i j next e =
    elim (chosen (length i.octets == 0) (step End i) (credential_at i) (step next j) e) [
      | inl w ↦ found_none i j next (is_none i.octets w.0) w.1
      | inr w ↦ found_some i j next (credential_law.found i j next w.1)
    ]

next_none : (i : Input) → i.octets ≡ [] → next_at i ≡ step End i
unfolding next_at
next_none i none = rw none refl

next_some : (i : Input) → 0 < length i.octets → next_at i ≡ credential_at i
unfolding next_at
next_some i some = rw (not_zero (length i.octets) some) refl

name_octets : (name : Name) (octets : List ℕ) → CacheName name octets → 0 < length octets
name_octets name octets t = some_octets t.front t.back octets 4 t.begins.sized (omega arith) t.same

credential_octets : (next : Next Kept) (octets : List ℕ) → Credential next octets → 0 < length octets
credential_octets next octets t =
    let some = name_octets t.value t.front t.begins in rw t.same (omega (arith, length-append t.front t.back))

next_only : (next : Next Kept) (front back : List ℕ) (i : Input) → Credential next front → i.octets ≡ front ++ back → next_at i ≡ step next (stands back i)
next_only next front back i t same =
    let some : 0 < length i.octets = let h = credential_octets next front t in rw same (omega (arith, length-append front back)) in
    next_some i some ∙ credential_law.only next front back i t same

next_law : StepLaw next_at Credential NoOctets
next_law = record {
  ended = λ i j e. next_found i j End e;
  passed = λ i j e. next_found i j Other e;
  given = λ i j v e. next_found i j (Item v) e;
  some = credential_octets;
  never = never;
  at_end = λ i none. (i, next_none i none);
  only = next_only;
  none = no_octets;
}

credentials_law : (owner : Name) → WholeLaw (λ i. all_of next_at i >>= (λ credentials. Ok (record { owner = owner; credentials = credentials }))) (Credentials owner)
credentials_law owner = record {
  found = λ i v e.
      let b = bind_ok (all_of next_at i) (λ credentials. Ok (record { owner = owner; credentials = credentials })) v e in
      let same = ok_is (record { owner = owner; credentials = b.0 }) v b.2 in
      let body = body_found next_at Credential NoOctets next_law (length i.octets) i b.0 (omega arith) b.1 in
      record { spells = subst (λ (c : Cache). Body Credential NoOctets c.credentials i.octets) same body; owned = sym (ap (λ c. c.owner) same) };
  only = λ v i spelled.
      let body = spelled.spells in
      let all = body_only next_at Credential NoOctets next_law (length i.octets) body.pieces body.front body.back i body.row body.ends body.same (omega arith) in
      rw (all, ← body.kept, ← spelled.owned) refl;
}

file_law : WholeLaw (λ i. counted_at 2 i >>= (λ header. name_at header.1 >>= (λ owner. all_of next_at owner.1 >>= (λ credentials. Ok (record { owner = owner.0; credentials = credentials }))))) (Then (Counted 2) (λ header. Then CacheName Credentials))
file_law =
    then_whole (counted_at 2) (Counted 2) (λ i header j. name_at j >>= (λ owner. all_of next_at owner.1 >>= (λ credentials. Ok (record { owner = owner.0; credentials = credentials })))) (λ header. Then CacheName Credentials) (counted_law 2)
    (λ i header. then_whole name_at CacheName (λ j owner k. all_of next_at k >>= (λ credentials. Ok (record { owner = owner; credentials = credentials }))) Credentials name_law (λ j owner. credentials_law owner))

magic_only : (octets body : List ℕ) → octets ≡ 5 ∷ 4 ∷ body → magic_at 4 octets ≡ Ok (record { end = length octets; octets = body; bounds = File })
unfolding magic_at
magic_only octets body same = rw same refl

pub ccache_found : (octets : List ℕ) (cache : Cache) → ccache_of octets ≡ Ok cache → SpellsCcache cache octets
unfolding ccache_of
ccache_found octets cache e =
    let b = bind_ok (magic_at 4 octets) (λ i. counted_at 2 i >>= (λ header. name_at header.1 >>= (λ owner. all_of next_at owner.1 >>= (λ credentials. Ok (record { owner = owner.0; credentials = credentials }))))) cache e in
    record { body = b.0.octets; spells = file_law.found b.0 cache b.2; same = magic_found 4 octets b.0 b.1 }

pub ccache_only : (octets : List ℕ) (cache : Cache) → SpellsCcache cache octets → ccache_of octets ≡ Ok cache
unfolding ccache_of
ccache_only octets cache spelled =
    rw (magic_only octets spelled.body spelled.same) (file_law.only cache (record { end = length octets; octets = spelled.body; bounds = File }) spelled.spells)
