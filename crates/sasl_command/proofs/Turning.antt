-- A message that was read, and what was made of it, are a turn; turns in a row.
use Rattle.std.proofs.Common.{◌≡◌, inl, inr, ℕ, List, [], ◌∷◌, ◌++◌, length, take, flat_map, refl, ap, sym, subst, ◌∙◌, append_assoc, Result, Ok, Err}
use Rattle.std.proofs.lemmas.List.{append-nil, take_all}
use Rattle.std.proofs.lemmas.Grind.{flat_map-append}
use Rattle.std.proofs.Math.Nat.{le_refl}
use Rattle.sec_base.specs.Link.{Wire}
use Rattle.sec_base.specs.Streams.{Took}
use Rattle.sasl_frames.specs.Messages.{all_framed, Hears}
use Rattle.sasl_frames.specs.declared.message.ReadEnd.{ReadEnd}
use Rattle.sasl_frames.specs.declared.message.ReadEnd.TheVariants as reads
use Rattle.sasl_layer.specs.declared.refusal.SaslRefusal.{SaslRefusal}
use Rattle.sasl_options.specs.declared.ending.RunEnd.{RunEnd}
use Rattle.sasl_options.specs.declared.ending.RunEnd.TheVariants.{Usage, CannotLoad, Bad, NoKey, NoCredential, NoMemory, LinkFault, PeerEnded, Refused, Finished}
use Rattle.sasl_command.specs.Turns.{Turn, Seen, Deals, Goes, Leads, beside, Did, Ended, Made, Spoken, end_of_read}
use Rattle.sasl_command.proofs.Devices.{deals-none, deals-again, deals-read, deals-took}

all-of : (xs : List ℕ) → (count : ℕ) × (xs ≡ take count xs)
all-of xs = (length xs, sym (take_all (length xs) xs (le_refl (length xs))))

-- octets were taken, and this was made of them, which is a turn
pub turned : {S : Type 0} (Does : S → Turn → Result S SaslRefusal → Type 0) (stage next : S) (Makes : List ℕ → List ℕ → List (List ℕ) → Result S SaslRefusal → Type 0) (took : List ℕ) {a b c : Seen}
    → ((moments octets : List ℕ) (said : List (List ℕ)) (answer : Result S SaslRefusal) → Makes moments octets said answer → Does stage (record { took = took; moments = moments; octets = octets; said = said }) answer)
    → Deals a b took [] [] [] → Made Makes b c (Ok next) → Did Does stage next a c
turned Does stage next Makes took via read made = record {
  turn = record { took = took; moments = made.moments; octets = made.octets; said = made.said };
  does = via made.moments made.octets made.said (Ok next) made.makes;
  deals = deals-read read made.deals;
}

-- the same of octets at which the run ended
pub stopped : {S : Type 0} (Does : S → Turn → Result S SaslRefusal → Type 0) (limit : S → ℕ) (IsDone : S → List ℕ → Type 0) (Waits : S → Type 0) (stage : S) (Makes : List ℕ → List ℕ → List (List ℕ) → Result S SaslRefusal → Type 0) (took : List ℕ) (end : RunEnd) {a b c : Seen}
    → ((moments octets : List ℕ) (said : List (List ℕ)) (answer : Result S SaslRefusal) → Makes moments octets said answer → Does stage (record { took = took; moments = moments; octets = octets; said = said }) answer)
    → Deals a b took [] [] [] → Made Makes b c (Err end) → Ended Does limit IsDone Waits stage a c end
stopped Does limit IsDone Waits stage Makes took Usage via read made = elim made [ ]
stopped Does limit IsDone Waits stage Makes took CannotLoad via read made = elim made [ ]
stopped Does limit IsDone Waits stage Makes took (Bad at) via read made = elim made [ ]
stopped Does limit IsDone Waits stage Makes took NoKey via read made = elim made [ ]
stopped Does limit IsDone Waits stage Makes took NoCredential via read made = elim made [ ]
stopped Does limit IsDone Waits stage Makes took NoMemory via read made = record {
  rest = record { took = took; wrote = []; moments = made.0; octets = made.1 };
  cause = refl;
  deals = deals-read read made.2;
}
stopped Does limit IsDone Waits stage Makes took LinkFault via read made = record {
  rest = record { took = took; wrote = take made.count (all_framed made.said); moments = made.moments; octets = made.octets };
  cause = inr (record { took = took; moments = made.moments; octets = made.octets; said = made.said }, made.next, via made.moments made.octets made.said (Ok made.next) made.makes, record { took = refl; front = (made.count, refl); moments = refl; octets = refl });
  deals = deals-read read made.deals;
}
stopped Does limit IsDone Waits stage Makes took PeerEnded via read made = elim made [ ]
stopped Does limit IsDone Waits stage Makes took (Refused refusal) via read made = record {
  rest = record { took = took; wrote = all_framed made.said; moments = made.moments; octets = made.octets };
  cause = (record { took = took; moments = made.moments; octets = made.octets; said = made.said }, via made.moments made.octets made.said (Err refusal) made.makes, record { took = refl; front = all-of (all_framed made.said); moments = refl; octets = refl }, refl);
  deals = deals-read read made.deals;
}
stopped Does limit IsDone Waits stage Makes took Finished via read made = elim made [ ]

-- the link has no further octet
ended-coming : {a b : Wire} → (a.coming ≡ []) × Took a b [] → b.coming ≡ []
ended-coming h = sym h.1.coming ∙ h.0

-- the stream ended where a message was due
pub ended : {S : Type 0} (Does : S → Turn → Result S SaslRefusal → Type 0) (limit : S → ℕ) (IsDone : S → List ℕ → Type 0) (Waits : S → Type 0) (stage : S) (a : Seen) (b : Wire) → Waits stage → (a.wire.coming ≡ []) × Took a.wire b [] → Ended Does limit IsDone Waits stage a (beside a b) PeerEnded
ended Does limit IsDone Waits stage a b waits h = record {
  rest = record { took = []; wrote = []; moments = []; octets = [] };
  cause = (record { wrote = refl; moments = refl; octets = refl }, ended-coming h, inl (refl, waits));
  deals = deals-took a b h.1;
}

-- no message was read; the end of the stream, where one was due, ends the run so
pub unread : {S : Type 0} (Does : S → Turn → Result S SaslRefusal → Type 0) (limit : S → ℕ) (IsDone : S → List ℕ → Type 0) (Waits : S → Type 0) (stage : S) (due : RunEnd) (a : Seen) (b : Wire) (read : ReadEnd)
    → ((a.wire.coming ≡ []) × Took a.wire b [] → Ended Does limit IsDone Waits stage a (beside a b) due) → Hears (limit stage) a.wire b (Err read) → Ended Does limit IsDone Waits stage a (beside a b) (end_of_read read due)
unread Does limit IsDone Waits stage due a b reads.Ended behind h = behind h
unread Does limit IsDone Waits stage due a b reads.Torn behind h = record {
  rest = record { took = h.0; wrote = []; moments = []; octets = [] };
  cause = (record { wrote = refl; moments = refl; octets = refl }, h.3, inr (h.1, h.2));
  deals = deals-took a b h.4;
}
unread Does limit IsDone Waits stage due a b reads.LinkFault behind h = record {
  rest = record { took = h.0; wrote = []; moments = []; octets = [] };
  cause = inl (record { wrote = refl; moments = refl; octets = refl }, h.1);
  deals = deals-took a b h.2;
}
unread Does limit IsDone Waits stage due a b reads.NoMemory behind h = record {
  rest = record { took = h.0; wrote = []; moments = []; octets = [] };
  cause = refl;
  deals = deals-took a b h.2;
}

-- ---- turns in a row

pub goes-push : {S : Type 0} (Does : S → Turn → Result S SaslRefusal → Type 0) (s : S) (turns : List Turn) (t : S) (turn : Turn) (u : S) → Goes Does s turns t → Does t turn (Ok u) → Goes Does s (turns ++ turn ∷ []) u
goes-push Does s [] t turn u e d = (u, subst (λ x. Does x turn (Ok u)) e d, refl)
goes-push Does s (first ∷ turns) t turn u g d = (g.0, g.1, goes-push Does g.0 turns t turn u g.2 d)

flat-push : (f : Turn → List ℕ) (turns : List Turn) (turn : Turn) → flat_map f turns ++ f turn ≡ flat_map f (turns ++ turn ∷ [])
flat-push f turns turn = ap (λ (zs : List ℕ). flat_map f turns ++ zs) (sym (append-nil (f turn))) ∙ sym (flat_map-append f turns (turn ∷ []))

pub leads-none : {S : Type 0} (Does : S → Turn → Result S SaslRefusal → Type 0) (start : S) (a : Seen) → Leads Does start start a a
leads-none Does start a = record { turns = []; goes = refl; deals = deals-none a }

deals-same : {a b : Seen} {t u m o v w n p : List ℕ} → t ≡ v → u ≡ w → m ≡ n → o ≡ p → Deals a b t u m o → Deals a b v w n p
deals-same e f g h d = rw (← e, ← f, ← g, ← h) d

pub leads-on : {S : Type 0} (Does : S → Turn → Result S SaslRefusal → Type 0) (start stands next : S) {a b c : Seen} → Leads Does start stands a b → Did Does stands next b c → Leads Does start next a c
leads-on Does start stands next l d = record {
  turns = l.turns ++ d.turn ∷ [];
  goes = goes-push Does start l.turns stands d.turn next l.goes d.does;
  deals = deals-same (flat-push (λ turn. turn.took) l.turns d.turn) (flat-push (λ turn. all_framed turn.said) l.turns d.turn) (flat-push (λ turn. turn.moments) l.turns d.turn) (flat-push (λ turn. turn.octets) l.turns d.turn) (deals-again l.deals d.deals);
}

pub leads-end : {S : Type 0} (Does : S → Turn → Result S SaslRefusal → Type 0) (limit : S → ℕ) (IsDone : S → List ℕ → Type 0) (Waits : S → Type 0) (start stands : S) {a b c : Seen} (end : RunEnd)
    → Leads Does start stands a b → Ended Does limit IsDone Waits stands b c end → Spoken Does limit IsDone Waits start stands a c end
leads-end Does limit IsDone Waits start stands end l d = record {
  turns = l.turns;
  rest = d.rest;
  goes = l.goes;
  cause = d.cause;
  deals = deals-again l.deals d.deals;
}

-- ---- parts of a run

goes-again : {S : Type 0} (Does : S → Turn → Result S SaslRefusal → Type 0) (s : S) (first : List Turn) (t : S) (then : List Turn) (u : S) → Goes Does s first t → Goes Does t then u → Goes Does s (first ++ then) u
goes-again Does s [] t then u e g = subst (λ x. Goes Does x then u) e g
goes-again Does s (turn ∷ first) t then u g h = (g.0, g.1, goes-again Does g.0 first t then u g.2 h)

pub leads-after : {S : Type 0} (Does : S → Turn → Result S SaslRefusal → Type 0) (s t u : S) {a b c : Seen} → Leads Does s t a b → Leads Does t u b c → Leads Does s u a c
leads-after Does s t u first then = record {
  turns = first.turns ++ then.turns;
  goes = goes-again Does s first.turns t then.turns u first.goes then.goes;
  deals = deals-same (sym (flat_map-append (λ turn. turn.took) first.turns then.turns)) (sym (flat_map-append (λ turn. all_framed turn.said) first.turns then.turns)) (sym (flat_map-append (λ turn. turn.moments) first.turns then.turns)) (sym (flat_map-append (λ turn. turn.octets) first.turns then.turns)) (deals-again first.deals then.deals);
}

joined : (f : Turn → List ℕ) (first then : List Turn) (rest : List ℕ) → flat_map f first ++ (flat_map f then ++ rest) ≡ flat_map f (first ++ then) ++ rest
joined f first then rest = sym (append_assoc (flat_map f first) (flat_map f then) rest) ∙ ap (λ (zs : List ℕ). zs ++ rest) (sym (flat_map-append f first then))

pub spoken-after : {S : Type 0} (Does : S → Turn → Result S SaslRefusal → Type 0) (limit : S → ℕ) (IsDone : S → List ℕ → Type 0) (Waits : S → Type 0) (s t u : S) {a b c : Seen} (end : RunEnd)
    → Leads Does s t a b → Spoken Does limit IsDone Waits t u b c end → Spoken Does limit IsDone Waits s u a c end
spoken-after Does limit IsDone Waits s t u end first then = record {
  turns = first.turns ++ then.turns;
  rest = then.rest;
  goes = goes-again Does s first.turns t then.turns u first.goes then.goes;
  cause = then.cause;
  deals = deals-same (joined (λ turn. turn.took) first.turns then.turns then.rest.took) (joined (λ turn. all_framed turn.said) first.turns then.turns then.rest.wrote) (joined (λ turn. turn.moments) first.turns then.turns then.rest.moments) (joined (λ turn. turn.octets) first.turns then.turns then.rest.octets) (deals-again first.deals then.deals);
}

-- one turn
pub leads-one : {S : Type 0} (Does : S → Turn → Result S SaslRefusal → Type 0) (s t : S) {a b : Seen} → Did Does s t a b → Leads Does s t a b
leads-one Does s t {a} d = leads-on Does s s t (leads-none Does s a) d

-- an end without a turn before it
pub spoken-at : {S : Type 0} (Does : S → Turn → Result S SaslRefusal → Type 0) (limit : S → ℕ) (IsDone : S → List ℕ → Type 0) (Waits : S → Type 0) (s : S) {a b : Seen} (end : RunEnd) → Ended Does limit IsDone Waits s a b end → Spoken Does limit IsDone Waits s s a b end
spoken-at Does limit IsDone Waits s {a} end e = leads-end Does limit IsDone Waits s s end (leads-none Does s a) e
