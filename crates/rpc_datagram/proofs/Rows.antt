-- One datagram, and then those after it.
use Rattle.std.proofs.Common.{◌≡◌, ℕ, ◌+◌, ◌≤◌, Bool, IsTrue, List, [], ◌∷◌, ◌++◌, length, map, flat_map, Option, None, Some, ap, sym, ◌∙◌, refl, arith, subst, append_assoc}
use Rattle.std.specs.List.{AllByRecursion}
use Rattle.std.proofs.lemmas.List.{map-append, append-nil, length-append}
use Rattle.std.proofs.lemmas.Grind.{flat_map-append}
use Rattle.accept_book.specs.RecordShown.{Asked}
use Rattle.accept_book.specs.declared.book_answer.Admitted.{Admitted}
use Rattle.rpc_program.specs.Programs.{Serving}
use Rattle.gss_server.specs.Answers.{IsDecided}
use Rattle.gss_server.specs.Asking.{Asking}
use Rattle.gss_server.specs.Connections.{IsExact, ruling_for}
use Rattle.gss_server.specs.declared.answer.Kept.{Kept}
use Rattle.gss_server.specs.declared.gate.Gate as gates
use Rattle.again_gate.specs.Again.{AgainOf, AgainAnswers, with_xid}
use Rattle.again_gate.specs.Turns.{Turned, Turning}
use Rattle.datagram_post.specs.declared.post.Post as posts
use Rattle.rpc_datagram.specs.declared.serving.ServeEnd.{ServeEnd}
use Rattle.rpc_datagram.specs.declared.serving.ServeEnd.TheVariants as ends
use Rattle.rpc_datagram.specs.Served.{record_of, xid_of, Datagram, ruling_of, turn_of, reply_list, replies_of, came, Course, Told, Waited, Unsent, DatagramsServed, OneAnswered}

all-join : {A : Type 0} (Q : A → Type 0) (xs ys : List A) → AllByRecursion Q xs → AllByRecursion Q ys → AllByRecursion Q (xs ++ ys)
all-join Q [] ys h k = k
all-join Q (x ∷ xs) ys h k = (h.0, all-join Q xs ys h.1 k)

came-join : (xs ys : List (Option (List ℕ))) → came (xs ++ ys) ≡ came xs ++ came ys
came-join [] ys = refl
came-join (None ∷ xs) ys = came-join xs ys
came-join (Some d ∷ xs) ys = ap (λ (l : List (List ℕ)). d ∷ l) (came-join xs ys)

module _ {P S : Type 0} (post : posts.Ghosts P) (gate : gates.Ghosts S) (serves : Serving) where
  -- ---- in a row

  turning-join : (xs ys : List Turned) (a b c : AgainOf S) → Turning gate.answers a xs b → Turning gate.answers b ys c → Turning gate.answers a (xs ++ ys) c
  turning-join [] ys a b c h k = subst (λ (x : AgainOf S). Turning gate.answers x ys c) h k
  turning-join (x ∷ xs) ys a b c h k = (h.0, h.1, turning-join xs ys h.0 b c h.2 k)

  course-join : (ga gb gc : AgainOf S) (ka kb : List Kept) (ds es : List Datagram) → Course gate.answers serves ga gb ka ds → Course gate.answers serves gb gc kb es → Course gate.answers serves ga gc (ka ++ kb) (ds ++ es)
  course-join ga gb gc ka kb ds es h k = record {
    each = ap (λ (l : List Kept). l ++ kb) h.each ∙ (ap (λ (l : List Kept). map (λ (d : Datagram). d.kept) ds ++ l) k.each ∙ sym (map-append (λ (d : Datagram). d.kept) ds es));
    exact = all-join (λ (d : Datagram). IsExact serves (record_of d.octets) d.kept) ds es h.exact k.exact;
    turns = subst (λ (l : List Turned). Turning gate.answers ga l gc) (sym (map-append (turn_of serves) ds es)) (turning-join (map (turn_of serves) ds) (map (turn_of serves) es) ga gb gc h.turns k.turns);
  }

  told-join : (a b c : P) (M N Q : ℕ → Type 0) (ds es xs ys : List Datagram) → ((n m : ℕ) → M n → N m → Q (n + m)) → Told post serves a b M ds xs → Told post serves b c N es ys → Told post serves a c Q (ds ++ es) (xs ++ ys)
  told-join a b c M N Q ds es xs ys both h k = record {
    waits = h.waits ++ k.waits;
    many = subst Q (sym (length-append h.waits k.waits)) (both (length h.waits) (length k.waits) h.many k.many);
    are = came-join h.waits k.waits ∙ (ap (λ (l : List (List ℕ)). l ++ came k.waits) h.are ∙ (ap (λ (l : List (List ℕ)). map (λ (d : Datagram). d.octets) ds ++ l) k.are ∙ sym (map-append (λ (d : Datagram). d.octets) ds es)));
    heard = k.heard ∙ (ap (λ (l : List (Option (List ℕ))). l ++ k.waits) h.heard ∙ append_assoc (post.heard a) h.waits k.waits);
    sent = k.sent ∙ (ap (λ (l : List (List ℕ)). l ++ flat_map (replies_of serves) ys) h.sent ∙ (append_assoc (post.sent a) (flat_map (replies_of serves) xs) (flat_map (replies_of serves) ys) ∙ ap (λ (l : List (List ℕ)). post.sent a ++ l) (sym (flat_map-append (replies_of serves) xs ys))));
  }

  none-of : (xs : List Datagram) → AllByRecursion (λ (d : Datagram). Unsent ends.Done (ruling_of serves d)) xs → xs ≡ []
  none-of [] all = refl
  none-of (x ∷ xs) all = absurd all.0

  -- so many waits passed, and then one more
  pub then-one : (n most : ℕ) (end : ServeEnd) (a b c : P) (ga gb gc : AgainOf S) (ka kb : List Kept) → ((i j : ℕ) → Waited n ends.Done i → Waited 1 end j → Waited most end (i + j)) → post.tells b ≡ post.tells a
      → DatagramsServed post gate serves n a b ga gb ends.Done ka → DatagramsServed post gate serves 1 b c gb gc end kb → DatagramsServed post gate serves most a c ga gc end (ka ++ kb)
  then-one n most end a b c ga gb gc ka kb both tells h k =
      let none : h.last ≡ [] = none-of h.last h.unsent in
      let first : h.answered ++ h.last ≡ h.answered = ap (λ (l : List Datagram). h.answered ++ l) none ∙ append-nil h.answered in
      let lists : (h.answered ++ h.last) ++ (k.answered ++ k.last) ≡ (h.answered ++ k.answered) ++ k.last = ap (λ (l : List Datagram). l ++ (k.answered ++ k.last)) first ∙ sym (append_assoc h.answered k.answered k.last) in record {
        answered = h.answered ++ k.answered;
        last = k.last;
        course = subst (λ (l : List Datagram). Course gate.answers serves ga gc (ka ++ kb) l) lists (course-join ga gb gc ka kb (h.answered ++ h.last) (k.answered ++ k.last) h.course k.course);
        decided = all-join (λ (d : Datagram). IsDecided (ruling_of serves d)) h.answered k.answered h.decided k.decided;
        few = k.few;
        unsent = k.unsent;
        told = λ t. subst (λ (l : List Datagram). Told post serves a c (Waited most end) l (h.answered ++ k.answered)) lists
            (told-join a b c (Waited n ends.Done) (Waited 1 end) (Waited most end) (h.answered ++ h.last) (k.answered ++ k.last) h.answered k.answered both (h.told t) (k.told (subst (λ (x : Bool). IsTrue x) (sym tells) t)));
      }

  pub goes-on : (n i j : ℕ) → Waited n ends.Done i → Waited 1 ends.Done j → Waited (n + 1) ends.Done (i + j)
  goes-on n i j h k = omega (arith, h, k)

  pub breaks-off : (n most i j : ℕ) → n + 1 ≤ most → Waited n ends.Done i → j ≤ 1 → i + j ≤ most
  breaks-off n most i j le h k = omega (arith, le, h, k)

  -- ---- one wait

  -- no datagram was answered
  pub nothing : (most : ℕ) (end : ServeEnd) (waits : List (Option (List ℕ))) (a b : P) (g : AgainOf S) → Waited most end (length waits) → came waits ≡ [] → (IsTrue (post.tells a) → post.heard b ≡ post.heard a ++ waits) → (IsTrue (post.tells a) → post.sent b ≡ post.sent a)
      → DatagramsServed post gate serves most a b g g end []
  nothing most end waits a b g many are heard sent = record {
    answered = [];
    last = [];
    course = record { each = refl; exact = tt; turns = refl };
    decided = tt;
    few = omega arith;
    unsent = tt;
    told = λ t. record { waits = waits; many = many; are = are; heard = heard t; sent = sent t ∙ sym (append-nil (post.sent a)) };
  }

  -- its record was answered
  pub one-served : (end : ServeEnd) (a b c : P) (ga gb : AgainOf S) (octets : List ℕ) (kept : List Kept) → post.tells b ≡ post.tells a → (IsTrue (post.tells a) → post.heard b ≡ post.heard a ++ Some octets ∷ []) → (IsTrue (post.tells a) → post.sent b ≡ post.sent a)
      → OneAnswered post gate serves b c ga gb (record_of octets) end kept → DatagramsServed post gate serves 1 a c ga gb end kept
  one-served ends.Done a b c ga gb octets kept tells heard sent o = record {
    answered = record { octets = octets; kept = o.one } ∷ [];
    last = [];
    course = record { each = o.only; exact = (o.exact, tt); turns = o.turns };
    decided = (o.ruled, tt);
    few = omega arith;
    unsent = tt;
    told = λ t. let t' = subst (λ (x : Bool). IsTrue x) (sym tells) t in record {
      waits = Some octets ∷ [];
      many = refl;
      are = refl;
      heard = o.heard t' ∙ heard t;
      sent = o.sent t' ∙ (ap (λ (l : List (List ℕ)). l ++ reply_list (ruling_for serves (record_of octets) o.one).reply) (sent t)
          ∙ ap (λ (l : List (List ℕ)). post.sent a ++ l) (sym (append-nil (reply_list (ruling_for serves (record_of octets) o.one).reply))));
    };
  }
  one-served ends.PostFault a b c ga gb octets kept tells heard sent o = record {
    answered = [];
    last = record { octets = octets; kept = o.one } ∷ [];
    course = record { each = o.only; exact = (o.exact, tt); turns = o.turns };
    decided = tt;
    few = omega arith;
    unsent = (o.ruled, tt);
    told = λ t. let t' = subst (λ (x : Bool). IsTrue x) (sym tells) t in record {
      waits = Some octets ∷ [];
      many = omega arith;
      are = refl;
      heard = o.heard t' ∙ heard t;
      sent = o.sent t' ∙ (sent t ∙ sym (append-nil (post.sent a)));
    };
  }
  one-served ends.NoMemory a b c ga gb octets kept tells heard sent o = record {
    answered = [];
    last = record { octets = octets; kept = o.one } ∷ [];
    course = record { each = o.only; exact = (o.exact, tt); turns = o.turns };
    decided = tt;
    few = omega arith;
    unsent = (o.ruled, tt);
    told = λ t. let t' = subst (λ (x : Bool). IsTrue x) (sym tells) t in record {
      waits = Some octets ∷ [];
      many = omega arith;
      are = refl;
      heard = o.heard t' ∙ heard t;
      sent = o.sent t' ∙ (sent t ∙ sym (append-nil (post.sent a)));
    };
  }

  -- the gate was named the record's transaction number, and then it was asked
  pub one-turn : (old turned new : AgainOf S) (xid : ℕ) (octets : List ℕ) (asked : List (Asked Admitted)) → turned ≡ with_xid xid old → xid ≡ xid_of octets → Asking (AgainAnswers gate.answers) turned asked new
      → Turning gate.answers old ((record { xid = xid_of octets; asked = asked }) ∷ []) new
  one-turn old turned new xid octets asked turn is h =
      (new, subst (λ (a : AgainOf S). Asking (AgainAnswers gate.answers) a asked new) (turn ∙ ap (λ (x : ℕ). with_xid x old) is) h, refl)
