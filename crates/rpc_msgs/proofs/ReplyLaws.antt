-- Replies are read as they are spelled.
use Rattle.std.proofs.Common.{◌≡◌, ◌≢◌, inl, inr, ℕ, ◌<◌, ◌^◌, lit<, false, cond, List, [], ◌∷◌, ◌++◌, length, Result, Ok, Err, IfOk, refl, sym, ap, subst, ◌∙◌, arith, append_assoc, eqb}
use Rattle.std.proofs.lemmas.Bool.{eqb-true}
use Rattle.std.proofs.lemmas.Bool.Decides.{eqb_tells}
use Rattle.std.proofs.lemmas.List.{append-nil}
use Rattle.rpc_msgs.specs.Words.{word, opaque}
use Rattle.rpc_msgs.specs.Xdr.{Input, Answers, whole, place, word_at}
use Rattle.rpc_msgs.specs.Auths.{AuthValue, IsAuth, auth_octets, auth_at}
use Rattle.rpc_msgs.specs.Replies.{ReplyValue, accepted, mismatch, auth_error, reply_value, accepted_body, reply_octets, IsReply, HasWords}
use Rattle.rpc_msgs.specs.ReplyReading.{refused_at, located, reply_word_at, reply_auth_at, due_at, done_at, range_at, body_at, accepted_at, mismatch_at, auth_error_at, denied_at, state_at, reply_at}
use Rattle.rpc_msgs.specs.declared.reply.Reply.{Reply}
use Rattle.rpc_msgs.specs.declared.reply_reading.ReplyRefusal.{ReplyRefusal}
use Rattle.rpc_msgs.specs.declared.xdr_reader.XdrRefusal.{XdrRefusal}
use Rattle.rpc_msgs.proofs.XdrLaws.{AreOctets, Law, bind_ok, refused_else, ok_is, word_law}
use Rattle.rpc_msgs.proofs.CallLaws.{auth_law}

located_ok : {A : Type 0} (r : Result A XdrRefusal) (y : A) → located r ≡ Ok y → r ≡ Ok y
located_ok (Ok x) y e = cc
located_ok (Err d) y e = absurd cc

pub reply_word_law : Law reply_word_at word (λ v. v < 2 ^ 32)
unfolding reply_word_at
reply_word_law = record {
  found = λ i j v all e. word_law.found i j v all (located_ok (word_at i) (v, j) e);
  only = λ v back end has. rw (word_law.only v back end has) refl;
}

pub reply_auth_law : Law reply_auth_at auth_octets IsAuth
unfolding reply_auth_at
reply_auth_law = record {
  found = λ i j v all e. auth_law.found i j v all (located_ok (auth_at i) (v, j) e);
  only = λ v back end has. rw (auth_law.only v back end has) refl;
}

-- a last value
last-word : (v end : ℕ) → v < 2 ^ 32 → reply_word_at (record { octets = word v; end = end }) ≡ Ok (v, record { octets = []; end = end })
last-word v end h = ap (λ (zs : List ℕ). reply_word_at (record { octets = zs; end = end })) (sym (append-nil (word v))) ∙ reply_word_law.only v [] end h

done-found : (v r : ReplyValue) (i : Input) → done_at v i ≡ Ok r → (v ≡ r) × (i.octets ≡ [])
unfolding done_at
done-found v r i e =
    let k = refused_else (eqb (length i.octets) 0) (refused_at (place i)) (Ok v) r e in
    (ok_is {E = ReplyRefusal} v r k.1, none i.octets (eqb-true (length i.octets) 0 k.0))
  where
    none : (xs : List ℕ) → length xs ≡ 0 → xs ≡ []
    none [] e = refl
    none (x ∷ xs) e = absurd (omega arith)

-- what a reading behind an accept stat found
record IsAccepted (xid : ℕ) (verf : AuthValue) (stat : ℕ) (octets : List ℕ) (r : ReplyValue) : Type 0 where
  low : ℕ
  high : ℕ
  result : List ℕ
  is : r ≡ accepted xid verf.flavour verf.body stat low high result
  same : octets ≡ accepted_body stat low high result
  no_result : stat ≢ 0 → result ≡ []
  no_low : stat ≢ 2 → low ≡ 0
  no_high : stat ≢ 2 → high ≡ 0
  low_fits : low < 2 ^ 32
  high_fits : high < 2 ^ 32

body-0 : (xid : ℕ) (verf : AuthValue) (i : Input) (r : ReplyValue) → body_at xid verf 0 i ≡ Ok r → IsAccepted xid verf 0 i.octets r
unfolding body_at
body-0 xid verf i r e = record {
  low = 0;
  high = 0;
  result = i.octets;
  is = sym (ok_is {E = ReplyRefusal} (accepted xid verf.flavour verf.body 0 0 0 i.octets) r e);
  same = refl;
  no_result = λ h. absurd (h refl);
  no_low = λ h. refl;
  no_high = λ h. refl;
  low_fits = lit< tt;
  high_fits = lit< tt;
}

body-2 : (xid : ℕ) (verf : AuthValue) (i : Input) (r : ReplyValue) → AreOctets i.octets → body_at xid verf 2 i ≡ Ok r → IsAccepted xid verf 2 i.octets r
unfolding body_at range_at
body-2 xid verf i r all e =
    let b = bind_ok (reply_word_at i) _ r e in
    let t = reply_word_law.found i b.0.1 b.0.0 all b.1 in
    let c = bind_ok (reply_word_at b.0.1) _ r b.2 in
    let u = reply_word_law.found b.0.1 c.0.1 c.0.0 t.left c.1 in
    let d = done-found (accepted xid verf.flavour verf.body 2 b.0.0 c.0.0 []) r c.0.1 c.2 in
    record {
      low = b.0.0;
      high = c.0.0;
      result = [];
      is = sym d.0;
      same = t.same ∙ ap (λ (zs : List ℕ). word b.0.0 ++ zs) (u.same ∙ (ap (λ (zs : List ℕ). word c.0.0 ++ zs) d.1 ∙ append-nil (word c.0.0)));
      no_result = λ h. refl;
      no_low = λ h. absurd (h refl);
      no_high = λ h. absurd (h refl);
      low_fits = t.has;
      high_fits = u.has;
    }

body-other : (xid : ℕ) (verf : AuthValue) (stat : ℕ) (i : Input) (r : ReplyValue) → eqb stat 0 ≡ false → eqb stat 2 ≡ false → body_at xid verf stat i ≡ Ok r → IsAccepted xid verf stat i.octets r
unfolding body_at
body-other xid verf stat i r f g e =
    let d = done-found (accepted xid verf.flavour verf.body stat 0 0 []) r i (rw (f, g) at e) in
    record {
      low = 0;
      high = 0;
      result = [];
      is = sym d.0;
      same = d.1 ∙ rw (f, g) refl;
      no_result = λ h. refl;
      no_low = λ h. refl;
      no_high = λ h. refl;
      low_fits = lit< tt;
      high_fits = lit< tt;
    }

body-found : (xid : ℕ) (verf : AuthValue) (stat : ℕ) (i : Input) (r : ReplyValue) → AreOctets i.octets → body_at xid verf stat i ≡ Ok r → IsAccepted xid verf stat i.octets r
body-found xid verf stat i r all e =
    elim (eqb_tells stat 0) [
      | inl (f, is) ↦ subst (λ (n : ℕ). body_at xid verf n i ≡ Ok r → IsAccepted xid verf n i.octets r) (sym is) (body-0 xid verf i r) e
      | inr (f, not) ↦ elim (eqb_tells stat 2) [
        | inl (g, is) ↦ subst (λ (n : ℕ). body_at xid verf n i ≡ Ok r → IsAccepted xid verf n i.octets r) (sym is) (body-2 xid verf i r all) e
        | inr (g, neither) ↦ body-other xid verf stat i r f g e
      ]
    ]

-- the octets behind the kind
state_octets : ReplyValue → List ℕ
state_octets (accepted xid flavour verf stat low high result) = word 0 ++ ((word flavour ++ opaque verf) ++ (word stat ++ accepted_body stat low high result))
state_octets (mismatch xid low high) = word 1 ++ (word 0 ++ (word low ++ word high))
state_octets (auth_error xid stat) = word 1 ++ (word 1 ++ word stat)

xid_of : ReplyValue → ℕ
xid_of (accepted xid flavour verf stat low high result) = xid
xid_of (mismatch xid low high) = xid
xid_of (auth_error xid stat) = xid

whole-octets : (r : ReplyValue) → reply_octets r ≡ word (xid_of r) ++ (word 1 ++ state_octets r)
unfolding state_octets xid_of
whole-octets (accepted xid flavour verf stat low high result) = flat (word xid) (word 1) (word 0) (word flavour) (opaque verf) (word stat) (accepted_body stat low high result)
  where
    flat : (a b c d e f g : List ℕ) → (((((a ++ b) ++ c) ++ d) ++ e) ++ f) ++ g ≡ a ++ (b ++ (c ++ ((d ++ e) ++ (f ++ g))))
    flat a b c d e f g = simp append_assoc
whole-octets (mismatch xid low high) = simp append_assoc
whole-octets (auth_error xid stat) = simp append_assoc

-- what a reading behind the kind found
record IsState (before : ℕ) (octets : List ℕ) (r : ReplyValue) : Type 0 where
  xid : xid_of r ≡ before
  proper : IsReply r
  words : before < 2 ^ 32 → HasWords r
  same : octets ≡ state_octets r

accepted-found : (xid : ℕ) (octets : List ℕ) (i : Input) (r : ReplyValue) → AreOctets i.octets → octets ≡ word 0 ++ i.octets → accepted_at xid i ≡ Ok r → IsState xid octets r
unfolding accepted_at state_octets xid_of
accepted-found xid octets i r all is e =
    let b = bind_ok (reply_auth_at i) _ r e in
    let t = reply_auth_law.found i b.0.1 b.0.0 all b.1 in
    let c = bind_ok (reply_word_at b.0.1) _ r b.2 in
    let u = reply_word_law.found b.0.1 c.0.1 c.0.0 t.left c.1 in
    let w = body-found xid b.0.0 c.0.0 c.0.1 r u.left c.2 in
    subst (λ (k : ReplyValue). IsState xid octets k) (sym w.is)
    (record {
      xid = refl;
      proper = (t.has.body, w.no_result, w.no_low, w.no_high);
      words = λ h. (h, t.has.flavour, u.has, w.low_fits, w.high_fits);
      same = is ∙ ap (λ (zs : List ℕ). word 0 ++ zs) (t.same ∙ ap (λ (zs : List ℕ). (word b.0.0.flavour ++ opaque b.0.0.body) ++ zs) (u.same ∙ ap (λ (zs : List ℕ). word c.0.0 ++ zs) w.same));
    })

mismatch-found : (xid : ℕ) (octets : List ℕ) (i : Input) (r : ReplyValue) → AreOctets i.octets → octets ≡ word 1 ++ (word 0 ++ i.octets) → mismatch_at xid i ≡ Ok r → IsState xid octets r
unfolding mismatch_at state_octets xid_of
mismatch-found xid octets i r all is e =
    let b = bind_ok (reply_word_at i) _ r e in
    let t = reply_word_law.found i b.0.1 b.0.0 all b.1 in
    let c = bind_ok (reply_word_at b.0.1) _ r b.2 in
    let u = reply_word_law.found b.0.1 c.0.1 c.0.0 t.left c.1 in
    let d = done-found (mismatch xid b.0.0 c.0.0) r c.0.1 c.2 in
    subst (λ (k : ReplyValue). IsState xid octets k) d.0
    (record {
      xid = refl;
      proper = tt;
      words = λ h. (h, t.has, u.has);
      same = is ∙ ap (λ (zs : List ℕ). word 1 ++ (word 0 ++ zs)) (t.same ∙ ap (λ (zs : List ℕ). word b.0.0 ++ zs) (u.same ∙ (ap (λ (zs : List ℕ). word c.0.0 ++ zs) d.1 ∙ append-nil (word c.0.0))));
    })

auth_error-found : (xid : ℕ) (octets : List ℕ) (i : Input) (r : ReplyValue) → AreOctets i.octets → octets ≡ word 1 ++ (word 1 ++ i.octets) → auth_error_at xid i ≡ Ok r → IsState xid octets r
unfolding auth_error_at state_octets xid_of
auth_error-found xid octets i r all is e =
    let b = bind_ok (reply_word_at i) _ r e in
    let t = reply_word_law.found i b.0.1 b.0.0 all b.1 in
    let d = done-found (auth_error xid b.0.0) r b.0.1 b.2 in
    subst (λ (k : ReplyValue). IsState xid octets k) d.0
    (record {
      xid = refl;
      proper = tt;
      words = λ h. (h, t.has);
      same = is ∙ ap (λ (zs : List ℕ). word 1 ++ (word 1 ++ zs)) (t.same ∙ (ap (λ (zs : List ℕ). word b.0.0 ++ zs) d.1 ∙ append-nil (word b.0.0)));
    })

-- one of two words, or neither
two_ways : {A : Type 0} (n : ℕ) (zeroth first : Result A ReplyRefusal) (d : ReplyRefusal) (y : A) → (P : Type 0) → cond (eqb n 0) zeroth (cond (eqb n 1) first (Err d)) ≡ Ok y → (n ≡ 0 → zeroth ≡ Ok y → P) → (n ≡ 1 → first ≡ Ok y → P) → P
two_ways n zeroth first d y P e one two =
    elim (eqb_tells n 0) [
      | inl (f, is) ↦ one is (rw f at e)
      | inr (f, not) ↦ elim (eqb_tells n 1) [
        | inl (g, is) ↦ two is (rw (f, g) at e)
        | inr (g, neither) ↦ absurd (let h : Err d ≡ Ok y = rw (f, g) at e in cc)
      ]
    ]

denied-found : (xid : ℕ) (octets : List ℕ) (i : Input) (r : ReplyValue) → AreOctets i.octets → octets ≡ word 1 ++ i.octets → denied_at xid i ≡ Ok r → IsState xid octets r
unfolding denied_at
denied-found xid octets i r all is e =
    let b = bind_ok (reply_word_at i) _ r e in
    let t = reply_word_law.found i b.0.1 b.0.0 all b.1 in
    let next = is ∙ ap (λ (zs : List ℕ). word 1 ++ zs) t.same in
    two_ways b.0.0 (mismatch_at xid b.0.1) (auth_error_at xid b.0.1) (refused_at (place i)) r (IsState xid octets r) b.2
    (λ n f. mismatch-found xid octets b.0.1 r t.left (next ∙ ap (λ (k : ℕ). word 1 ++ (word k ++ b.0.1.octets)) n) f)
    (λ n f. auth_error-found xid octets b.0.1 r t.left (next ∙ ap (λ (k : ℕ). word 1 ++ (word k ++ b.0.1.octets)) n) f)

state-found : (xid : ℕ) (i : Input) (r : ReplyValue) → AreOctets i.octets → state_at xid i ≡ Ok r → IsState xid i.octets r
unfolding state_at
state-found xid i r all e =
    let b = bind_ok (reply_word_at i) _ r e in
    let t = reply_word_law.found i b.0.1 b.0.0 all b.1 in
    two_ways b.0.0 (accepted_at xid b.0.1) (denied_at xid b.0.1) (refused_at (place i)) r (IsState xid i.octets r) b.2
    (λ n f. accepted-found xid i.octets b.0.1 r t.left (t.same ∙ ap (λ (k : ℕ). word k ++ b.0.1.octets) n) f)
    (λ n f. denied-found xid i.octets b.0.1 r t.left (t.same ∙ ap (λ (k : ℕ). word k ++ b.0.1.octets) n) f)

-- what is read is a reply, and is spelled so
pub reply-found : (octets : List ℕ) (r : ReplyValue) → AreOctets octets → reply_at octets ≡ Ok r → IsReply r × HasWords r × (octets ≡ reply_octets r)
unfolding reply_at due_at
reply-found octets r all e =
    let b = bind_ok (reply_word_at (whole octets)) _ r e in
    let t = reply_word_law.found (whole octets) b.0.1 b.0.0 all b.1 in
    let c = bind_ok (due_at 1 b.0.1) _ r b.2 in
    let d = bind_ok (reply_word_at b.0.1) _ c.0 c.1 in
    let u = reply_word_law.found b.0.1 d.0.1 d.0.0 t.left d.1 in
    let k = refused_else (eqb d.0.0 1) (refused_at (place b.0.1)) (Ok (tt, d.0.1)) c.0 d.2 in
    let one_is : d.0.0 ≡ 1 = eqb-true d.0.0 1 k.0 in
    let rest : d.0.1 ≡ c.0.1 = ap (λ p. p.1) (ok_is {E = ReplyRefusal} (tt, d.0.1) c.0 k.1) in
    let s = state-found b.0.0 d.0.1 r u.left (ap (λ (i : Input). state_at b.0.0 i) rest ∙ c.2) in
    let xid : xid_of r ≡ b.0.0 = s.xid in (
      s.proper,
      s.words t.has,
      t.same ∙ (ap (λ (zs : List ℕ). word b.0.0 ++ zs) (u.same ∙ (ap (λ (n : ℕ). word n ++ d.0.1.octets) one_is ∙ ap (λ (zs : List ℕ). word 1 ++ zs) s.same)) ∙ (ap (λ (n : ℕ). word n ++ (word 1 ++ state_octets r)) (sym xid) ∙ sym (whole-octets r))),
    )

body-only : (xid flavour : ℕ) (verf : List ℕ) (stat low high : ℕ) (result : List ℕ) (end : ℕ) → IsReply (accepted xid flavour verf stat low high result) → low < 2 ^ 32 → high < 2 ^ 32 → body_at xid (record { flavour = flavour; body = verf }) stat (record { octets = accepted_body stat low high result; end = end }) ≡ Ok (accepted xid flavour verf stat low high result)
unfolding body_at range_at done_at
body-only xid flavour verf stat low high result end h low_fits high_fits =
    elim (eqb_tells stat 0) [
      | inl (f, is) ↦
          let no_low : low ≡ 0 = h.2 (λ two. absurd (omega arith)) in
          let no_high : high ≡ 0 = h.3 (λ two. absurd (omega arith)) in
          rw (is, no_low, no_high) refl
      | inr (f, not) ↦
          let none : result ≡ [] = h.1 not in
          elim (eqb_tells stat 2) [
            | inl (g, is) ↦ rw (is, none) (rw (reply_word_law.only low (word high) end low_fits, last-word high end high_fits) refl)
            | inr (g, neither) ↦
                let no_low : low ≡ 0 = h.2 neither in
                let no_high : high ≡ 0 = h.3 neither in
                rw (f, g, none, no_low, no_high) refl
          ]
    ]

state-only : (r : ReplyValue) (end : ℕ) → IsReply r → HasWords r → state_at (xid_of r) (record { octets = state_octets r; end = end }) ≡ Ok r
unfolding state_at accepted_at denied_at mismatch_at auth_error_at done_at state_octets xid_of
state-only (accepted xid flavour verf stat low high result) end h w =
    rw (
      reply_word_law.only 0 ((word flavour ++ opaque verf) ++ (word stat ++ accepted_body stat low high result)) end (lit< tt),
      reply_auth_law.only (record { flavour = flavour; body = verf }) (word stat ++ accepted_body stat low high result) end (record { flavour = w.1; body = h.0 }),
      reply_word_law.only stat (accepted_body stat low high result) end w.2,
    )
    (body-only xid flavour verf stat low high result end h w.3 w.4)
state-only (mismatch xid low high) end h w =
    rw (reply_word_law.only 1 (word 0 ++ (word low ++ word high)) end (lit< tt), reply_word_law.only 0 (word low ++ word high) end (lit< tt), reply_word_law.only low (word high) end w.1, last-word high end w.2) refl
state-only (auth_error xid stat) end h w =
    rw (reply_word_law.only 1 (word 1 ++ word stat) end (lit< tt), reply_word_law.only 1 (word stat) end (lit< tt), last-word stat end w.1) refl

has-xid : (r : ReplyValue) → HasWords r → xid_of r < 2 ^ 32
unfolding xid_of
has-xid (accepted xid flavour verf stat low high result) w = w.0
has-xid (mismatch xid low high) w = w.0
has-xid (auth_error xid stat) w = w.0

-- what is spelled as a reply is read
pub reply-only : (r : ReplyValue) → IsReply r → HasWords r → reply_at (reply_octets r) ≡ Ok r
unfolding reply_at due_at
reply-only r h w =
    let end : ℕ = length (reply_octets r) in
    let first : reply_word_at (record { octets = reply_octets r; end = end }) ≡ Ok (xid_of r, record { octets = word 1 ++ state_octets r; end = end }) =
    ap (λ (zs : List ℕ). reply_word_at (record { octets = zs; end = end })) (whole-octets r) ∙ reply_word_law.only (xid_of r) (word 1 ++ state_octets r) end (has-xid r w) in
    rw (first, reply_word_law.only 1 (state_octets r) end (lit< tt)) (state-only r end h w)

pub reply-spelled : (octets : List ℕ) (result : Result Reply ReplyRefusal) → AreOctets octets → Answers reply_value result (reply_at octets) → IfOk result (λ reply. IsReply (reply_value reply) × HasWords (reply_value reply) × (octets ≡ reply_octets (reply_value reply)))
reply-spelled octets (Ok reply) all e = reply-found octets (reply_value reply) all e
reply-spelled octets (Err refusal) all e = tt

pub reply-again : (r : ReplyValue) (octets : List ℕ) → IsReply r → HasWords r → octets ≡ reply_octets r → reply_at octets ≡ Ok r
reply-again r octets h w e = ap reply_at e ∙ reply-only r h w
