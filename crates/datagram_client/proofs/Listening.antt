-- Datagrams that were passed over while the reply to a creation call is due.
use Rattle.std.proofs.Common.{◌≡◌, ℕ, ◌+◌, ◌<◌, ◌≤◌, Bool, false, IsTrue, List, [], ◌∷◌, ◌++◌, length, map, Option, None, Some, Ok, Err, refl, ap, sym, ◌∙◌, subst, arith, append_assoc, append-nil}
use Rattle.std.proofs.lemmas.List.{length_push}
use Rattle.datagram_post.specs.declared.post.Post as posts
use Rattle.datagram_client.specs.declared.hearing.Heard.TheVariants as heards
use Rattle.datagram_client.specs.declared.refusal.PostRefusal.TheVariants as refusals
use Rattle.datagram_client.specs.Hearing.{answers, AreOther, HeardAs, Hears}

-- so far, over a post that tells
pub record Passing (xid count count' : ℕ) (old new : List (Option (List ℕ))) : Type 0 where
  pub over : List (List ℕ)
  pub other : AreOther xid over
  pub counted : count' ≡ count + length over
  pub heard : new ≡ old ++ map Some over

pub record Listening {P : Type 0} (post : posts.Ghosts P) (xid count count' : ℕ) (old new : P) : Type 0 where
  pub told : IsTrue (post.tells old) → Passing xid count count' (post.heard old) (post.heard new)
  pub sent : IsTrue (post.tells old) → post.sent new ≡ post.sent old
  pub tells : post.tells new ≡ post.tells old
  pub faults : post.faults old ≤ post.faults new
  pub few : count' ≤ 1024

other-more : (xid : ℕ) (over : List (List ℕ)) (d : List ℕ) → AreOther xid over → answers xid d ≡ false → AreOther xid (over ++ d ∷ [])
other-more xid [] d all is = (is, tt)
other-more xid (x ∷ over) d all is = (all.0, other-more xid over d all.1 is)

some-more : (over : List (List ℕ)) (d : List ℕ) → map Some (over ++ d ∷ []) ≡ map Some over ++ Some d ∷ []
some-more [] d = refl
some-more (x ∷ over) d = ap (λ (l : List (Option (List ℕ))). Some x ∷ l) (some-more over d)

module _ {P : Type 0} (post : posts.Ghosts P) (xid count : ℕ) (old : P) where
  pub begun : count < 1024 → Listening post xid count count old old
  begun few = record {
    told = λ t. record { over = []; other = tt; counted = omega arith; heard = sym (append-nil (post.heard old)) };
    sent = λ t. refl;
    tells = refl;
    faults = omega arith;
    few = omega (arith, few);
  }

  still : (mid : P) → post.tells mid ≡ post.tells old → IsTrue (post.tells old) → IsTrue (post.tells mid)
  still mid e t = subst (λ (b : Bool). IsTrue b) (sym e) t

  -- a further one was passed over
  pub passed : (count' : ℕ) (mid new : P) → Listening post xid count count' old mid → count' < 1024 → (IsTrue (post.tells mid) → HeardAs xid (post.heard mid) (post.heard new) heards.Other)
      → (IsTrue (post.tells mid) → post.sent new ≡ post.sent mid) → post.tells new ≡ post.tells mid → post.faults mid ≤ post.faults new → Listening post xid count (count' + 1) old new
  passed count' mid new l few heard sent tells faults = record {
    told = λ t.
        let p = l.told t in
        let h = heard (still mid l.tells t) in record {
          over = p.over ++ h.0 ∷ [];
          other = other-more xid p.over h.0 p.other h.1;
          counted = omega (arith, p.counted, length_push p.over h.0);
          heard = h.2 ∙ (ap (λ (l : List (Option (List ℕ))). l ++ Some h.0 ∷ []) p.heard ∙ (append_assoc (post.heard old) (map Some p.over) (Some h.0 ∷ []) ∙ ap (λ (l : List (Option (List ℕ))). post.heard old ++ l) (sym (some-more p.over h.0))));
        };
    sent = λ t. sent (still mid l.tells t) ∙ l.sent t;
    tells = tells ∙ l.tells;
    faults = omega (arith, faults, l.faults);
    few = omega (arith, few);
  }

  -- what follows ends it
  behind : (mid new : P) (p : List (List ℕ)) (last : List (Option (List ℕ))) → post.heard mid ≡ post.heard old ++ map Some p → post.heard new ≡ post.heard mid ++ last → post.heard new ≡ post.heard old ++ (map Some p ++ last)
  behind mid new p last e f = f ∙ (ap (λ (l : List (Option (List ℕ))). l ++ last) e ∙ append_assoc (post.heard old) (map Some p) last)

  pub replied : (count' : ℕ) (mid new : P) (reply : List ℕ) → Listening post xid count count' old mid → count' < 1024 → (IsTrue (post.tells mid) → HeardAs xid (post.heard mid) (post.heard new) (heards.Reply reply)) → IsTrue (post.tells old) → Hears xid count count' (post.heard old) (post.heard new) (Ok reply)
  replied count' mid new reply l few heard t =
      let p = l.told t in
      let h = heard (still mid l.tells t) in
      record { over = p.over; other = p.other; counted = p.counted; ends = (h.0, few, behind mid new p.over (Some reply ∷ []) p.heard h.1) }

  pub silent : (count' : ℕ) (mid new : P) → Listening post xid count count' old mid → count' < 1024 → (IsTrue (post.tells mid) → HeardAs xid (post.heard mid) (post.heard new) heards.Nothing) → IsTrue (post.tells old) → Hears xid count count' (post.heard old) (post.heard new) (Err refusals.NoReply)
  silent count' mid new l few heard t =
      let p = l.told t in record { over = p.over; other = p.other; counted = p.counted; ends = (few, behind mid new p.over (None ∷ []) p.heard (heard (still mid l.tells t))) }

  pub failed : (count' : ℕ) (mid new : P) → Listening post xid count count' old mid → (IsTrue (post.tells mid) → HeardAs xid (post.heard mid) (post.heard new) heards.Fault) → IsTrue (post.tells old) → Hears xid count count' (post.heard old) (post.heard new) (Err refusals.PostFault)
  failed count' mid new l heard t =
      let p = l.told t in record { over = p.over; other = p.other; counted = p.counted; ends = behind mid new p.over [] p.heard (heard (still mid l.tells t) ∙ sym (append-nil (post.heard mid))) }

  pub wanting : (count' : ℕ) (mid new : P) → Listening post xid count count' old mid → (IsTrue (post.tells mid) → HeardAs xid (post.heard mid) (post.heard new) heards.NoMemory) → IsTrue (post.tells old) → Hears xid count count' (post.heard old) (post.heard new) (Err refusals.NoMemory)
  wanting count' mid new l heard t =
      let p = l.told t in
      let h = heard (still mid l.tells t) in record { over = p.over; other = p.other; counted = p.counted; ends = (h.0, behind mid new p.over h.0 p.heard h.1) }

  pub flooded : (count' : ℕ) (mid : P) → Listening post xid count count' old mid → 1024 ≤ count' → IsTrue (post.tells old) → Hears xid count count' (post.heard old) (post.heard mid) (Err refusals.Flood)
  flooded count' mid l many t =
      let p = l.told t in record { over = p.over; other = p.other; counted = p.counted; ends = (omega (arith, l.few, many), behind mid mid p.over [] p.heard (sym (append-nil (post.heard mid)))) }
