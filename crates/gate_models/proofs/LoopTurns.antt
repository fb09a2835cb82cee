-- What a link that answers in one thread heard and said, after each part of a write.
use Rattle.std.proofs.Common.{◌≡◌, ◌⊎◌, inl, inr, ℕ, ◌+◌, ◌-◌, ◌^◌, ◌<◌, ◌≤◌, Bool, true, false, List, [], ◌∷◌, ◌++◌, length, take, drop, refl, ap, sym, subst, ◌∙◌, arith, append_assoc}
use Rattle.std.specs.Prelude.{nat_lt}
use Rattle.std.proofs.lemmas.Bool.Decides.{nat_tests}
use Rattle.std.proofs.Math.Seq.{drop-append_seam}
use Rattle.std.proofs.lemmas.List.{length-append, length-drop, append-nil, drop_all, take_all, take-append-drop}
use Rattle.rpc_msgs.specs.Words.{word}
use Rattle.rpc_msgs.proofs.WordLengths.{length-word}
use Rattle.rpc_msgs.specs.Records.{Fragments, octets_in, frames, frame, IsFront}
use Rattle.accept_book.specs.RecordShown.{Asked}
use Rattle.accept_book.specs.declared.book_answer.Admitted.{Admitted}
use Rattle.rpc_program.specs.Programs.{Serving}
use Rattle.gss_server.specs.declared.answer.Kept.{Kept}
use Rattle.gate_models.specs.declared.looping.Turned.{Turned}
use Rattle.gate_models.specs.declared.looping.Turned.TheVariants.{Answered, Rests, Starved}
use Rattle.gss_server.specs.Answers.{GoesOn}
use Rattle.gss_server.specs.Asking.{Asking}
use Rattle.gss_server.specs.Connections.{octets_of, ruling_for, written_for, written_in, asked_for, asked_in, IsExact}
use Rattle.gate_models.specs.Looping.{IsUnfit, IsLast, Rest, LoopedTo, Looped, IsWholeAt, Answering, KeptOnly, IsAnsweredBy, Unjudged, IsTurned, HeardMore, Loops, Since, AllAt, GaveTo}
use Rattle.gss_server.proofs.Turning.{each-push, octets_of-push, order-push, all-push}

-- what stands behind the records is the rest
pub behind : {rests : List (Asked Admitted) → List ℕ → List Kept → Type 0} (serves : Serving) (moment : ℕ) (heard said : List ℕ) (kept : List Kept) (cut : ℕ) → (p : LoopedTo rests serves moment heard said kept cut) → drop cut heard ≡ p.rest
behind serves moment heard said kept cut p =
    ap (λ (n : ℕ). drop n heard) p.place ∙ (ap (λ (zs : List ℕ). drop (length (octets_of p.records)) zs) p.spelled ∙ drop-append_seam (octets_of p.records) p.rest)

-- nothing was kept behind the answers
only-answers : (answers last kept : List Kept) → kept ≡ answers ++ last → last ≡ [] → kept ≡ answers
only-answers answers last kept e none = e ∙ (ap (λ (ks : List Kept). answers ++ ks) none ∙ append-nil answers)

-- one more answer was given at the moment
at-push : (moment : ℕ) (kept : List Kept) (one : Kept) → AllAt moment kept → one.now ≡ moment → AllAt moment (kept ++ one ∷ [])
at-push moment [] one all e = (e, tt)
at-push moment (k ∷ kept) one all e = (all.0, at-push moment kept one all.1 e)

at-more : (moment : ℕ) (kept kept' : List Kept) (one : Kept) → AllAt moment kept → one.now ≡ moment → kept' ≡ kept ++ one ∷ [] → AllAt moment kept'
at-more moment kept kept' one all e keeps = subst (AllAt moment) (sym keeps) (at-push moment kept one all e)

-- a draw that gave nothing to an answer gave what it did before
pub gave-none : (tells : Bool) (given before : List ℕ) → given ≡ before → GaveTo tells given before []
gave-none tells given before e = λ t. e ∙ sym (append-nil before)

-- what was asked before, and then
abbrev pub Goes : (List (Asked Admitted) → Type 0) → (List (Asked Admitted) → Type 0) → (List (Asked Admitted) → Type 0) → Type 0
Goes gained asking gained' = (m o : List (Asked Admitted)) → gained m → asking o → gained' (m ++ o)

pub answered-more : (gained asking gained' : List (Asked Admitted) → Type 0) → Goes gained asking gained' → (serves : Serving) (moment : ℕ) (heard : List ℕ) (kept kept' : List Kept) (said said' : List ℕ) (cut cut' : ℕ) (octets : List ℕ) (size : ℕ) → LoopedTo (Unjudged gained) serves moment heard said kept cut → IsWholeAt (drop cut heard) octets size → Answering asking serves moment octets size kept kept' said said' cut cut' → LoopedTo (Unjudged gained') serves moment heard said' kept' cut'
answered-more gained asking gained' goes serves moment heard kept kept' said said' cut cut' octets size p w a =
    let rest_is : p.rest ≡ frame w.cut ++ w.more = sym (behind serves moment heard said kept cut p) ∙ w.begins in
    let kept_is : kept ≡ p.answers = only-answers p.answers p.last kept p.keeps p.stands.1 in
    let asked : gained' (asked_in serves p.records p.answers ++ asked_for serves (octets_in w.cut) a.one) =
    goes (asked_in serves p.records p.answers) (asked_for serves (octets_in w.cut) a.one) p.stands.0 (subst (λ (zs : List ℕ). asking (asked_for serves zs a.one)) w.heard a.asked) in
    let exact : IsExact serves (octets_in w.cut) a.one = subst (λ (zs : List ℕ). IsExact serves zs a.one) w.heard a.exact in
    let decided : GoesOn (ruling_for serves (octets_in w.cut) a.one) = subst (λ (zs : List ℕ). GoesOn (ruling_for serves zs a.one)) w.heard a.decided in
    record {
      records = p.records ++ w.cut ∷ [];
      rest = w.more;
      answers = p.answers ++ a.one ∷ [];
      last = [];
      each = each-push p.records w.cut p.each w.is_record;
      spelled = p.spelled ∙ (ap (λ (zs : List ℕ). octets_of p.records ++ zs) rest_is ∙ (sym (append_assoc (octets_of p.records) (frame w.cut) w.more) ∙ ap (λ (zs : List ℕ). zs ++ w.more) (octets_of-push p.records w.cut)));
      place = placed cut cut' size (length (octets_of p.records)) (length (frame w.cut)) (length (octets_of (p.records ++ w.cut ∷ []))) a.place p.place w.long (sym (length-append (octets_of p.records) (frame w.cut)) ∙ ap length (octets_of-push p.records w.cut));
      counted = length-append p.records (w.cut ∷ []) ∙ (ap (λ (n : ℕ). n + 1) p.counted ∙ sym (length-append p.answers (a.one ∷ [])));
      exact = all-push (IsExact serves) p.records p.answers w.cut a.one p.counted p.exact exact;
      decided = all-push (λ octets k. GoesOn (ruling_for serves octets k)) p.records p.answers w.cut a.one p.counted p.decided decided;
      keeps = a.keeps ∙ (ap (λ (ks : List Kept). ks ++ a.one ∷ []) kept_is ∙ sym (append-nil (p.answers ++ a.one ∷ [])));
      timed = at-more moment kept kept' a.one p.timed a.timed a.keeps;
      replies = a.replied ∙ (ap (λ (zs : List ℕ). zs ++ written_for serves octets a.one) p.replies ∙ (ap (λ (zs : List ℕ). written_in serves p.records p.answers ++ written_for serves zs a.one) w.heard ∙ sym (order-push (written_for serves) p.records p.answers w.cut a.one p.counted)));
      stands = (subst gained' (sym (order-push (asked_for serves) p.records p.answers w.cut a.one p.counted)) asked, refl);
    }
  where
    placed : (c c' s n m k : ℕ) → c' ≡ c + s → c ≡ n → s ≡ m → n + m ≡ k → c' ≡ k
    placed c c' s n m k e f g h = omega arith

-- another rest
with-rests : {rests rests' : List (Asked Admitted) → List ℕ → List Kept → Type 0} (serves : Serving) (moment : ℕ) (heard said : List ℕ) (kept : List Kept) (cut : ℕ) → (p : LoopedTo rests serves moment heard said kept cut) → rests' (asked_in serves p.records p.answers) p.rest p.last → LoopedTo rests' serves moment heard said kept cut
with-rests serves moment heard said kept cut p r = record {
  records = p.records;
  rest = p.rest;
  answers = p.answers;
  last = p.last;
  each = p.each;
  spelled = p.spelled;
  place = p.place;
  counted = p.counted;
  exact = p.exact;
  decided = p.decided;
  keeps = p.keeps;
  timed = p.timed;
  replies = p.replies;
  stands = r;
}

-- no whole record is left
pub rested : (gained : List (Asked Admitted) → Type 0) (serves : Serving) (moment : ℕ) (heard said : List ℕ) (kept : List Kept) (cut : ℕ) → LoopedTo (Unjudged gained) serves moment heard said kept cut → IsFront (drop cut heard) ⊎ IsUnfit (drop cut heard) → Looped gained serves moment heard said kept cut false
rested gained serves moment heard said kept cut p q =
    with-rests {rests = Unjudged gained} {rests' = Rest gained serves false} serves moment heard said kept cut p (p.stands.0, p.stands.1, subst (λ (zs : List ℕ). IsFront zs ⊎ IsUnfit zs) (behind serves moment heard said kept cut p) q)

-- memory was wanted before the gate was asked
pub starved-before : (gained : List (Asked Admitted) → Type 0) (serves : Serving) (moment : ℕ) (heard said : List ℕ) (kept : List Kept) (cut : ℕ) → LoopedTo (Unjudged gained) serves moment heard said kept cut → Looped gained serves moment heard said kept cut true
starved-before gained serves moment heard said kept cut p = with-rests {rests = Unjudged gained} {rests' = Rest gained serves true} serves moment heard said kept cut p (inl p.stands)

-- and after it
pub starved-after : (gained asking gained' : List (Asked Admitted) → Type 0) → Goes gained asking gained' → (serves : Serving) (moment : ℕ) (heard said : List ℕ) (kept kept' : List Kept) (cut : ℕ) (octets : List ℕ) (size : ℕ) → LoopedTo (Unjudged gained) serves moment heard said kept cut → IsWholeAt (drop cut heard) octets size → KeptOnly asking serves moment octets kept kept' → Looped gained' serves moment heard said kept' cut true
starved-after gained asking gained' goes serves moment heard said kept kept' cut octets size p w k =
    let kept_is : kept ≡ p.answers = only-answers p.answers p.last kept p.keeps p.stands.1 in
    record {
      records = p.records;
      rest = p.rest;
      answers = p.answers;
      last = k.one ∷ [];
      each = p.each;
      spelled = p.spelled;
      place = p.place;
      counted = p.counted;
      exact = p.exact;
      decided = p.decided;
      keeps = k.keeps ∙ ap (λ (ks : List Kept). ks ++ k.one ∷ []) kept_is;
      timed = at-more moment kept kept' k.one p.timed k.timed k.keeps;
      replies = p.replies;
      stands = inr (record {
        cut = w.cut;
        one = k.one;
        more = w.more;
        is_record = w.is_record;
        begins = sym (behind serves moment heard said kept cut p) ∙ w.begins;
        kept = refl;
        exact = subst (λ (zs : List ℕ). IsExact serves zs k.one) w.heard k.exact;
        wanted = subst (λ (zs : List ℕ). IsLast (ruling_for serves zs k.one)) w.heard k.wanted;
        asked = goes (asked_in serves p.records p.answers) (asked_for serves (octets_in w.cut) k.one) p.stands.0 (subst (λ (zs : List ℕ). asking (asked_for serves zs k.one)) w.heard k.asked);
      });
    }

-- memory was wanted, kept or not
pub starved-either : (gained asking gained' : List (Asked Admitted) → Type 0) → Goes gained asking gained' → (serves : Serving) (moment : ℕ) (heard said said' : List ℕ) (kept kept' : List Kept) (cut cut' : ℕ) (octets : List ℕ) (size : ℕ) → LoopedTo (Unjudged gained) serves moment heard said kept cut → IsWholeAt (drop cut heard) octets size → (said' ≡ said) × (cut' ≡ cut) × ((asking [] × (kept' ≡ kept)) ⊎ KeptOnly asking serves moment octets kept kept') → Looped gained' serves moment heard said' kept' cut' true
starved-either gained asking gained' goes serves moment heard said said' kept kept' cut cut' octets size p w (e, f, inl g) =
    rw (e, f, g.1) (starved-before gained' serves moment heard said kept cut (with-rests {rests = Unjudged gained} {rests' = Unjudged gained'} serves moment heard said kept cut p (subst gained' (append-nil (asked_in serves p.records p.answers)) (goes (asked_in serves p.records p.answers) [] p.stands.0 g.0), p.stands.1)))
starved-either gained asking gained' goes serves moment heard said said' kept kept' cut cut' octets size p w (e, f, inr k) = rw (e, f) (starved-after gained asking gained' goes serves moment heard said kept kept' cut octets size p w k)

-- more was heard
pub heard-more : (gained : List (Asked Admitted) → Type 0) (serves : Serving) (moment : ℕ) (heard octets said : List ℕ) (kept : List Kept) (cut : ℕ) → Looped gained serves moment heard said kept cut false → LoopedTo (Unjudged gained) serves moment (heard ++ octets) said kept cut
heard-more gained serves moment heard octets said kept cut p = record {
  records = p.records;
  rest = p.rest ++ octets;
  answers = p.answers;
  last = p.last;
  each = p.each;
  spelled = ap (λ (zs : List ℕ). zs ++ octets) p.spelled ∙ append_assoc (octets_of p.records) p.rest octets;
  place = p.place;
  counted = p.counted;
  exact = p.exact;
  decided = p.decided;
  keeps = p.keeps;
  timed = p.timed;
  replies = p.replies;
  stands = (p.stands.0, p.stands.1);
}

pub starved-unheard : (gained : List (Asked Admitted) → Type 0) (serves : Serving) (moment : ℕ) (heard said : List ℕ) (kept : List Kept) (cut : ℕ) → Looped gained serves moment heard said kept cut false → Looped gained serves moment heard said kept cut true
starved-unheard gained serves moment heard said kept cut p = with-rests {rests = Rest gained serves false} {rests' = Rest gained serves true} serves moment heard said kept cut p (inl (p.stands.0, p.stands.1))

pub no-octets : IsFront []
no-octets = record { earlier = []; part = []; few = omega arith; size = omega arith; partial = inl (omega arith); spelled = refl }

-- all that was heard stands in records
pub all-heard : (gained : List (Asked Admitted) → Type 0) (serves : Serving) (moment : ℕ) (heard said : List ℕ) (kept : List Kept) (cut : ℕ) → length heard ≤ cut → LoopedTo (Unjudged gained) serves moment heard said kept cut → Looped gained serves moment heard said kept cut false
all-heard gained serves moment heard said kept cut h p = rested gained serves moment heard said kept cut p (inl (subst IsFront (sym (drop_all cut heard h)) no-octets))

-- nothing was heard
pub looped-none : (gained : List (Asked Admitted) → Type 0) → gained [] → (serves : Serving) (moment : ℕ) → Looped gained serves moment [] [] [] 0 false
looped-none gained g serves moment = record { records = []; rest = []; answers = []; last = []; each = tt; spelled = refl; place = refl; counted = refl; exact = tt; decided = tt; keeps = refl; timed = tt; replies = refl; stands = (g, refl, inl no-octets) }

-- what became of a whole record
pub turned-so : (gained asking gained' : List (Asked Admitted) → Type 0) → Goes gained asking gained' → (serves : Serving) (moment : ℕ) (heard : List ℕ) (kept kept' : List Kept) (said said' : List ℕ) (cut cut' : ℕ) (octets : List ℕ) (size : ℕ) (result : Turned) → LoopedTo (Unjudged gained) serves moment heard said kept cut → IsWholeAt (drop cut heard) octets size → IsAnsweredBy asking serves moment octets size kept kept' said said' cut cut' result → IsTurned gained' serves moment heard said' kept' cut' result
turned-so gained asking gained' goes serves moment heard kept kept' said said' cut cut' octets size Answered p w a = answered-more gained asking gained' goes serves moment heard kept kept' said said' cut cut' octets size p w a
turned-so gained asking gained' goes serves moment heard kept kept' said said' cut cut' octets size Rests p w a = absurd a
turned-so gained asking gained' goes serves moment heard kept kept' said said' cut cut' octets size Starved p w a = starved-either gained asking gained' goes serves moment heard said said' kept kept' cut cut' octets size p w a

frame-some : (cut : Fragments) → 4 ≤ length (frame cut)
frame-some cut =
    omega (
      arith,
      length-append (frames cut.earlier) (word (2 ^ 31 + length cut.last) ++ cut.last),
      length-append (word (2 ^ 31 + length cut.last)) cut.last,
      length-word (2 ^ 31 + length cut.last),
    )

pub further : (asking : List (Asked Admitted) → Type 0) (serves : Serving) (moment : ℕ) (kept kept' : List Kept) (said said' : List ℕ) (cut cut' : ℕ) (stream octets : List ℕ) (size : ℕ) (result : Turned) → IsWholeAt stream octets size → IsAnsweredBy asking serves moment octets size kept kept' said said' cut cut' result → result ≡ Answered → cut < cut'
further asking serves moment kept kept' said said' cut cut' stream octets size Answered w a e = omega (arith, a.place, w.long, frame-some w.cut)
further asking serves moment kept kept' said said' cut cut' stream octets size Rests w a e = absurd a
further asking serves moment kept kept' said said' cut cut' stream octets size Starved w a e = absurd cc

-- what is said only grows
pub said-more : (asking : List (Asked Admitted) → Type 0) (serves : Serving) (moment : ℕ) (octets : List ℕ) (size : ℕ) (kept kept' : List Kept) (said said' : List ℕ) (cut cut' : ℕ) (result : Turned) → IsAnsweredBy asking serves moment octets size kept kept' said said' cut cut' result → (more : List ℕ) × (said' ≡ said ++ more)
said-more asking serves moment octets size kept kept' said said' cut cut' Answered a = (written_for serves octets a.one, a.replied)
said-more asking serves moment octets size kept kept' said said' cut cut' Rests a = absurd a
said-more asking serves moment octets size kept kept' said said' cut cut' Starved a = ([], a.0 ∙ sym (append-nil said))

-- a slice up to the end
pub sliced : (n : ℕ) (xs ys : List ℕ) → ys ≡ xs → take (length ys - n) (drop n ys) ≡ drop n xs
sliced n xs ys e = rw e (take_all (length xs - n) (drop n xs) (omega (arith, length-drop n xs)))

-- all was heard, whatever came of it
pub heard-so : (octets heard heard' : List ℕ) (result : Bool) → heard' ≡ heard ++ octets → HeardMore octets heard heard' result
heard-so octets heard heard' true e = e
heard-so octets heard heard' false e = (length octets, e ∙ ap (λ (zs : List ℕ). heard ++ zs) (sym (take_all (length octets) octets (omega arith))))

-- what was taken and what is to come is what was said
pub loops-of : (gained : List (Asked Admitted) → Type 0) (serves : Serving) (moment at cut : ℕ) (heard said : List ℕ) (kept : List Kept) (starved : Bool) → Looped gained serves moment heard said kept cut starved → Loops gained serves moment (record { taken = take at said; coming = drop at said; written = heard }) kept starved
loops-of gained serves moment at cut heard said kept starved p = (cut, subst (λ (zs : List ℕ). Looped gained serves moment heard zs kept cut starved) (sym (take-append-drop at said)) p)

pub still-starved : (n m : ℕ) → 0 < n → 0 < m → nat_lt 0 n ≡ nat_lt 0 m
still-starved n m h k = let e : nat_lt 0 n ≡ true = grind (arith, nat_tests) in let f : nat_lt 0 m ≡ true = grind (arith, nat_tests) in e ∙ sym f

-- from a state that begins so, more was asked
pub looped-since : {S : Type 0} (begins : S → Type 0) (Answers : S → Asked Admitted → S → Type 0) (old new : S) (serves serves' : Serving) (moment moment' : ℕ) (heard heard' said said' : List ℕ) (kept kept' : List Kept) (cut cut' : ℕ) (starved : Bool)
    → ((first : S) → Looped (λ asked. Asking Answers first asked old) serves moment heard said kept cut false → Looped (λ asked. Asking Answers first asked new) serves' moment' heard' said' kept' cut' starved)
    → Looped (Since begins Answers old) serves moment heard said kept cut false → Looped (Since begins Answers new) serves' moment' heard' said' kept' cut' starved
looped-since {S} begins Answers old new serves serves' moment moment' heard heard' said said' kept kept' cut cut' starved step p =
    let x = p.stands.0 in
    let q = step x.0 (with-rests {rests = Rest (Since begins Answers old) serves false} {rests' = Rest (λ asked. Asking Answers x.0 asked old) serves false} serves moment heard said kept cut p (x.2, p.stands.1, p.stands.2)) in
    with-rests {rests = Rest (λ asked. Asking Answers x.0 asked new) serves' starved} {rests' = Rest (Since begins Answers new) serves' starved} serves' moment' heard' said' kept' cut' q
    (since-rest x.0 x.1 serves' starved (asked_in serves' q.records q.answers) q.rest q.last q.stands)
  where
    since-rest : (first : S) → begins first → (w : Serving) (b : Bool) (asked : List (Asked Admitted)) (rest : List ℕ) (last : List Kept) → Rest (λ m. Asking Answers first m new) w b asked rest last → Rest (Since begins Answers new) w b asked rest last
    since-rest first h w false asked rest last r = ((first, h, r.0), r.1, r.2)
    since-rest first h w true asked rest last (inl r) = inl ((first, h, r.0), r.1)
    since-rest first h w true asked rest last (inr k) = inr (record { cut = k.cut; one = k.one; more = k.more; is_record = k.is_record; begins = k.begins; kept = k.kept; exact = k.exact; wanted = k.wanted; asked = (first, h, k.asked) })
