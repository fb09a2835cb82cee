-- Turn after turn of a connection.
use Rattle.std.proofs.Common.{◌≡◌, ◌≢◌, inl, inr, lit<, lit≤, subst, ℕ, ◌+◌, ◌*◌, ◌<◌, ◌≤◌, List, [], ◌∷◌, ◌++◌, length, take, refl, ap, sym, ◌∙◌, arith, append_assoc, map, Bool, Option, Some, None, Err}
use Rattle.std.specs.List.{AllByRecursion}
use Rattle.std.proofs.Math.Seq.{take-append-add, take-length}
use Rattle.std.proofs.lemmas.Grind.{common_steps, flat_map-append}
use Rattle.std.proofs.lemmas.List.{length-append, append-nil, length-map, map-append}
use Rattle.sec_base.specs.Link.{Wire, HasTaken, HasWritten}
use Rattle.rpc_msgs.specs.Records.{Fragments, octets_in, frame, IsRecord, IsFront}
use Rattle.gss_server.specs.declared.answer.Kept.{Kept}
use Rattle.gss_server.specs.declared.connection.ConnEnd.{ConnEnd}
use Rattle.gss_server.specs.declared.connection.ConnEnd.TheVariants.{Ended, LinkFault, TooLong, TooManyFragments, Torn, Budget, NoMemory, Lost}
use Rattle.rpc_program.specs.Programs.{Serving}
use Rattle.accept_book.specs.declared.book_answer.Admitted.{Admitted}
use Rattle.accept_book.specs.RecordShown.{Ruling, Asked}
use Rattle.accept_book.proofs.Asking.{record-at}
use Rattle.gss_server.specs.Hearing.{kept_answers}
use Rattle.gss_server.specs.Telling.{told_of}
use Rattle.gss_server.specs.Asking.{Asking, IsAsked}
use Rattle.gss_server.specs.declared.told.Told.{Told}
use Rattle.gss_server.specs.Answers.{GoesOn, IsLost}
use Rattle.gss_server.specs.Connections.{Went, octets_of, in_order, ruling_for, written_for, written_in, asked_for, asked_in, Counts, AllInOrder, IsExact, AllExact, AllDecided, LastIs, IsAnswered, IsWritten, IsServed}
use Rattle.gss_server.specs.Underway.{Underway, WentOn}
use Rattle.gss_server.specs.Turns.{All, InPart, Nothing, Receives, Replies, Turns, Replied, Exchanges, Serves, ReadsTo, Stops, Breaks, Wanted}

pub went-took : {told : Bool} {a b : Wire} {xs : List ℕ} → HasTaken told a b xs → Went told a b xs []
went-took {a = a} t = record {
  taken = t.taken;
  coming = λ told. ([], append-nil a.coming ∙ t.coming told);
  written = t.written ∙ grind (arith, common_steps);
}

pub went-put : {told : Bool} {a b c : Wire} {xs ys : List ℕ} → HasTaken told a b xs → HasWritten told b c ys → Went told a c xs ys
went-put {b = b} {xs = xs} {ys = ys} t p = record {
  taken = p.taken ∙ t.taken;
  coming = λ told.
      let more = p.coming told in
      (more.0, ap (λ (zs : List ℕ). zs ++ more.0) (t.coming told) ∙ (append_assoc xs b.coming more.0 ∙ ap (λ (zs : List ℕ). xs ++ zs) (sym more.1)));
  written = p.written ∙ ap (λ (zs : List ℕ). zs ++ ys) t.written;
}

pub went-again : {told : Bool} {a b c : Wire} {xs ys us vs : List ℕ} → Went told a b xs ys → Went told b c us vs → Went told a c (xs ++ us) (ys ++ vs)
went-again {a = a} {b = b} {c = c} {xs = xs} {ys = ys} {us = us} {vs = vs} p q = record {
  taken = q.taken ∙ (ap (λ (zs : List ℕ). zs ++ us) p.taken ∙ append_assoc a.taken xs us);
  coming = λ told.
      let m = p.coming told in
      let n = q.coming told in (
        m.0 ++ n.0,
        sym (append_assoc a.coming m.0 n.0) ∙ (ap (λ (zs : List ℕ). zs ++ n.0) m.1 ∙ (append_assoc xs b.coming n.0 ∙ (ap (λ (zs : List ℕ). xs ++ zs) n.1 ∙ sym (append_assoc xs us c.coming)))),
      );
  written = q.written ∙ (ap (λ (zs : List ℕ). zs ++ vs) p.written ∙ append_assoc a.written ys vs);
}

pub went-same : {told : Bool} {a b : Wire} {xs ys us vs : List ℕ} → Went told a b xs ys → xs ≡ us → ys ≡ vs → Went told a b us vs
went-same {a = a} {b = b} w e f = record {
  taken = w.taken ∙ ap (λ (zs : List ℕ). a.taken ++ zs) e;
  coming = λ told. let m = w.coming told in (m.0, m.1 ∙ ap (λ (zs : List ℕ). zs ++ b.coming) e);
  written = w.written ∙ ap (λ (zs : List ℕ). a.written ++ zs) f;
}

-- a record was read and then answered
served-by : {told : Bool} {gained : List (Asked Admitted) → Type 0} {Is : Ruling → Type 0} {Much : List ℕ → List ℕ → Type 0} {serves : Serving} {a b c : Wire} {kept : List Kept} (cut : Fragments) → IsRecord cut → HasTaken told a b (frame cut) → Replied told gained Is Much serves b c (octets_in cut) kept → Serves told gained Is Much serves a c kept
served-by cut r h p = record {
  cut = cut;
  keeps = p.keeps;
  wire = record { is_record = r; wrote = p.wire.wrote; much = p.wire.much; went = went-put h p.wire.put };
}

pub turned : (told : Bool) (gained : List (Asked Admitted) → Type 0) (serves : Serving) {a b : Wire} (c : Wire) (kept : List Kept) (cut : Fragments) (result : Option ConnEnd) → IsRecord cut → HasTaken told a b (frame cut) → Replies told gained serves b c (octets_in cut) result kept → Turns told gained serves a c result kept
turned told gained serves c kept cut None r h p = served-by cut r h p
turned told gained serves c kept cut (Some Ended) r h p = absurd p
turned told gained serves c kept cut (Some LinkFault) r h p = inr (served-by cut r h p)
turned told gained serves c kept cut (Some TooLong) r h p = absurd p
turned told gained serves c kept cut (Some TooManyFragments) r h p = absurd p
turned told gained serves c kept cut (Some Torn) r h p = absurd p
turned told gained serves c kept cut (Some Budget) r h p = absurd p
turned told gained serves c kept cut (Some Lost) r h p = inr (served-by cut r h p)
turned told gained serves c kept cut (Some NoMemory) r h (inl p) = inl (record {
  none = p.none;
  early = λ e. absurd cc;
  known = λ e. absurd cc;
  asked = p.asked;
  wire = record { octets = frame cut; behind = inr (record { cut = cut; is_record = r; spelled = refl }); went = went-put h p.wire };
})
turned told gained serves c kept cut (Some NoMemory) r h (inr p) = inr (served-by cut r h p)

-- no record was read
reads-to : {told : Bool} {a b : Wire} (ending : ConnEnd) → Receives told a b (Err ending) → ReadsTo told a b ending
reads-to Ended r = record { octets = []; behind = (refl, r.1); went = went-took r.0 }
reads-to LinkFault r = record { octets = r.0; behind = r.1; went = went-took r.2 }
reads-to TooLong r = record { octets = r.0; behind = r.1; went = went-took r.2 }
reads-to TooManyFragments r = record { octets = r.0; behind = r.1; went = went-took r.2 }
reads-to Torn r = record { octets = r.0; behind = (r.1, r.3); went = went-took r.2 }
reads-to Budget r = absurd r
reads-to Lost r = absurd r
reads-to NoMemory r = record { octets = r.0; behind = r.1; went = went-took r.2 }

pub unread : {told : Bool} {gained : List (Asked Admitted) → Type 0} {a b : Wire} (ending : ConnEnd) → gained [] → ending ≢ Budget → ending ≢ Lost → Receives told a b (Err ending) → Stops told gained a b ending []
unread ending g early known r = record { none = refl; early = early; known = known; asked = g; wire = reads-to ending r }

pub each-push : (records : List Fragments) (cut : Fragments) → AllByRecursion IsRecord records → IsRecord cut → AllByRecursion IsRecord (records ++ cut ∷ [])
each-push [] cut all r = (r, tt)
each-push (x ∷ records) cut all r = (all.0, each-push records cut all.1 r)

pub octets_of-push : (records : List Fragments) (cut : Fragments) → octets_of records ++ frame cut ≡ octets_of (records ++ cut ∷ [])
octets_of-push records cut =
    ap (λ (zs : List ℕ). octets_of records ++ zs) (sym (append-nil (frame cut))) ∙ sym (flat_map-append frame records (cut ∷ []))

pub order-push : {A : Type 0} (each : List ℕ → Kept → List A) (records : List Fragments) (kept : List Kept) (cut : Fragments) (one : Kept) → length records ≡ length kept → in_order each (records ++ cut ∷ []) (kept ++ one ∷ []) ≡ in_order each records kept ++ each (octets_in cut) one
order-push each [] [] cut one e = append-nil (each (octets_in cut) one)
order-push each [] (k ∷ kept) cut one e = absurd (omega arith)
order-push each (x ∷ records) [] cut one e = absurd (omega arith)
order-push {A} each (x ∷ records) (k ∷ kept) cut one e =
    ap (λ (zs : List A). each (octets_in x) k ++ zs) (order-push each records kept cut one (omega arith)) ∙ sym (append_assoc (each (octets_in x) k) (in_order each records kept) (each (octets_in cut) one))

pub all-push : (Each : List ℕ → Kept → Type 0) (records : List Fragments) (kept : List Kept) (cut : Fragments) (one : Kept) → length records ≡ length kept → AllInOrder Each records kept → Each (octets_in cut) one → AllInOrder Each (records ++ cut ∷ []) (kept ++ one ∷ [])
all-push Each [] [] cut one e all h = (h, tt)
all-push Each [] (k ∷ kept) cut one e all h = absurd (omega arith)
all-push Each (x ∷ records) [] cut one e all h = absurd (omega arith)
all-push Each (x ∷ records) (k ∷ kept) cut one e all h = (all.0, all-push Each records kept cut one (omega arith) all.1 h)

-- what a gate gained before and then is what it gained since: at most two questions a record
abbrev pub Joins : (List (Asked Admitted) → Type 0) → (List (Asked Admitted) → Type 0) → (List (Asked Admitted) → Type 0) → ℕ → Type 0
Joins earlier then since number = (m o : List (Asked Admitted)) → length m ≤ 2 * number → earlier m → then o → since (m ++ o)

few-asked_for : (serves : Serving) (octets : List ℕ) (one : Kept) → length (asked_for serves octets one) ≤ 2
few-asked_for serves octets one = (record-at octets (kept_answers one) serves).few

few-asked : (serves : Serving) (records : List Fragments) (kept : List Kept) → length (asked_in serves records kept) ≤ 2 * length records
few-asked serves [] kept = omega arith
few-asked serves (x ∷ records) [] = omega arith
few-asked serves (x ∷ records) (k ∷ kept) =
    omega (arith, few-asked serves records kept, length-append (asked_for serves (octets_in x) k) (asked_in serves records kept), few-asked_for serves (octets_in x) k)

pub asked-none : {S : Type 0} (Answers : S → Asked Admitted → S → Type 0) (tells : S → Bool) (room : S → ℕ) (told : S → List Told) (least : ℕ) (s : S) → IsAsked Answers tells room told least s s []
asked-none Answers tells room told least s = record { answers = refl; telling = λ t r. record { gained = sym (append-nil (told s)); used = omega arith } }

-- questions and then more
pub asking-more : {S : Type 0} (Answers : S → Asked Admitted → S → Type 0) (a b c : S) (m o : List (Asked Admitted)) → Asking Answers a m b → Asking Answers b o c → Asking Answers a (m ++ o) c
asking-more Answers a b c [] o p q = subst (λ s. Asking Answers s o c) p q
asking-more Answers a b c (one ∷ m) o p q = (p.0, p.1, asking-more Answers p.0 b c m o p.2 q)

pub joined : {S : Type 0} {Answers : S → Asked Admitted → S → Type 0} {tells : S → Bool} {room : S → ℕ} {told : S → List Told} (a b c : S) {n : ℕ} → tells b ≡ tells a → n < 65536 → Joins (IsAsked Answers tells room told 131072 a b) (IsAsked Answers tells room told 2 b c) (IsAsked Answers tells room told 131072 a c) n
joined {Answers = Answers} {tells = tells} {room = room} {told = told} a b c e h = λ m o few p q. record {
  answers = asking-more Answers a b c m o p.answers q.answers;
  telling = λ t r.
      let x = p.telling t r in
      let y = q.telling (rw e t) (omega (arith, x.used, few, length-map m told_of, r, h)) in record {
        gained = y.gained ∙ (ap (λ (zs : List Told). zs ++ map told_of o) x.gained ∙ (append_assoc (told a) (map told_of m) (map told_of o) ∙ ap (λ (zs : List Told). told a ++ zs) (sym (map-append told_of m o))));
        used = omega (arith, x.used, y.used, length-append (map told_of m) (map told_of o), ap (length {A = Told}) (map-append told_of m o));
      };
}

-- nothing was read
pub serving-none : {told : Bool} {gained : List (Asked Admitted) → Type 0} {serves : Serving} → (w : Wire) → gained [] → Underway told gained serves w w 0 []
serving-none w none = record {
  records = [];
  count = refl;
  counted = refl;
  exact = tt;
  answered = tt;
  asked = none;
  wire = record { each = tt; went = record { taken = sym (append-nil w.taken); coming = λ t. ([], append-nil w.coming); written = sym (append-nil w.written) } };
}

-- one more answer was kept, by a record that was read
count-more : {told : Bool} {earlier : List (Asked Admitted) → Type 0} {serves : Serving} {a b : Wire} {before : List Kept} {n : ℕ} (cut : Fragments) (one : Kept) (s : Underway told earlier serves a b n before) → length (s.records ++ cut ∷ []) ≡ length (before ++ one ∷ [])
count-more {before = before} cut one s = length-append s.records (cut ∷ []) ∙ (ap (λ (k : ℕ). k + 1) s.counted ∙ sym (length-append before (one ∷ [])))

exact-more : {told : Bool} {earlier : List (Asked Admitted) → Type 0} {serves : Serving} {a b : Wire} {before : List Kept} {n : ℕ} (cut : Fragments) (one : Kept) (s : Underway told earlier serves a b n before) → IsExact serves (octets_in cut) one → AllExact serves (s.records ++ cut ∷ []) (before ++ one ∷ [])
exact-more {serves = serves} {before = before} cut one s h = all-push (IsExact serves) s.records before cut one s.counted s.exact h

decided-more : {told : Bool} {earlier : List (Asked Admitted) → Type 0} {serves : Serving} {a b : Wire} {before : List Kept} {n : ℕ} (cut : Fragments) (one : Kept) (s : Underway told earlier serves a b n before) → GoesOn (ruling_for serves (octets_in cut) one) → AllDecided serves (s.records ++ cut ∷ []) (before ++ one ∷ [])
decided-more {serves = serves} {before = before} cut one s h = all-push (λ octets k. GoesOn (ruling_for serves octets k)) s.records before cut one s.counted s.answered h

asked-more : {told : Bool} {earlier then : List (Asked Admitted) → Type 0} (since : List (Asked Admitted) → Type 0) {serves : Serving} {a b : Wire} {before : List Kept} {n : ℕ} (cut : Fragments) (one : Kept) (s : Underway told earlier serves a b n before) → Joins earlier then since n → then (asked_for serves (octets_in cut) one) → since (asked_in serves (s.records ++ cut ∷ []) (before ++ one ∷ []))
asked-more since {serves} {before = before} cut one s joins t =
    subst since (sym (order-push (asked_for serves) s.records before cut one s.counted))
    (joins (asked_in serves s.records before) (asked_for serves (octets_in cut) one) (omega (arith, few-asked serves s.records before, s.count)) s.asked t)

-- and what went over the link
each-more : {told : Bool} {serves : Serving} {a b c : Wire} {records : List Fragments} {before : List Kept} {Much : List ℕ → List ℕ → Type 0} {cut : Fragments} {due : List ℕ} → WentOn told serves a b records before → Exchanges told Much b c cut due → AllByRecursion IsRecord (records ++ cut ∷ [])
each-more {records = records} {cut = cut} w x = each-push records cut w.each x.is_record

went-more : {told : Bool} {serves : Serving} {a b c : Wire} (records : List Fragments) (before : List Kept) {Much : List ℕ → List ℕ → Type 0} (cut : Fragments) {due : List ℕ} → WentOn told serves a b records before → (x : Exchanges told Much b c cut due) → Went told a c (octets_of (records ++ cut ∷ [])) (written_in serves records before ++ x.wrote)
went-more records before cut w x = went-same (went-again w.went x.went) (octets_of-push records cut) refl

wrote-all : (serves : Serving) (records : List Fragments) (before : List Kept) (cut : Fragments) (one : Kept) (wrote : List ℕ) → length records ≡ length before → wrote ≡ written_for serves (octets_in cut) one → written_in serves records before ++ wrote ≡ written_in serves (records ++ cut ∷ []) (before ++ one ∷ [])
wrote-all serves records before cut one wrote e h =
    ap (λ (zs : List ℕ). written_in serves records before ++ zs) h ∙ sym (order-push (written_for serves) records before cut one e)

wrote-part : (serves : Serving) (records : List Fragments) (before : List Kept) (cut : Fragments) (one : Kept) (wrote : List ℕ) → length records ≡ length before → InPart (written_for serves (octets_in cut) one) wrote → InPart (written_in serves (records ++ cut ∷ []) (before ++ one ∷ [])) (written_in serves records before ++ wrote)
wrote-part serves records before cut one wrote e h = (
  length (written_in serves records before) + h.0,
  ap (λ (zs : List ℕ). written_in serves records before ++ zs) h.1
      ∙ (sym (take-append-add (written_in serves records before) (written_for serves (octets_in cut) one) h.0)
      ∙ ap (λ (zs : List ℕ). take (length (written_in serves records before) + h.0) zs) (sym (order-push (written_for serves) records before cut one e))),
)

more-on-wire : {told : Bool} {earlier : List (Asked Admitted) → Type 0} {serves : Serving} {a b c : Wire} {before : List Kept} {n : ℕ} (cut : Fragments) (one : Kept) (s : Underway told earlier serves a b n before) → Exchanges told All b c cut (written_for serves (octets_in cut) one) → WentOn told serves a c (s.records ++ cut ∷ []) (before ++ one ∷ [])
more-on-wire {serves = serves} {before = before} cut one s x =
    let w = s.wire in record {
      each = each-more w x;
      went = went-same (went-more s.records before cut w x) refl (wrote-all serves s.records before cut one x.wrote s.counted x.much);
    }

serving-one : {told : Bool} {earlier then since : List (Asked Admitted) → Type 0} {serves : Serving} {a b c : Wire} {before : List Kept} (n : ℕ) → Joins earlier then since n → Underway told earlier serves a b n before → {kept : List Kept} (t : Serves told then GoesOn All serves b c kept) → Underway told since serves a c (n + 1) (before ++ t.keeps.one ∷ [])
serving-one {since = since} {before = before} n joins s t =
    let cut = t.cut in
    let one = t.keeps.one in
    record {
      records = s.records ++ cut ∷ [];
      count = omega (arith, s.count, length-append s.records (cut ∷ []));
      counted = count-more cut one s;
      exact = exact-more cut one s t.keeps.exact;
      answered = decided-more cut one s t.keeps.ruled;
      asked = asked-more since cut one s joins t.keeps.asked;
      wire = more-on-wire cut one s t.wire;
    }

pub serving-more : {told : Bool} {earlier then since : List (Asked Admitted) → Type 0} {serves : Serving} {a b c : Wire} {before kept : List Kept} (n : ℕ) → Joins earlier then since n → Underway told earlier serves a b n before → Turns told then serves b c None kept → Underway told since serves a c (n + 1) (before ++ kept)
serving-more {told} {since = since} {serves} {a} {c = c} {before} n joins s t =
    subst (λ (ks : List Kept). Underway told since serves a c (n + 1) (before ++ ks)) (sym t.keeps.only) (serving-one n joins s t)

-- a turn that goes on keeps one answer
pub one-more : {told : Bool} {gained : List (Asked Admitted) → Type 0} {serves : Serving} {a b : Wire} {kept : List Kept} → Turns told gained serves a b None kept → length kept ≡ 1
one-more t = ap (length {A = Kept}) t.keeps.only

-- a connection that ends before it has answered as many records as it may
counts-early : (ending : ConnEnd) (n m : ℕ) → m ≡ n → n < 65536 → ending ≢ Budget → Counts ending m
counts-early Ended n m e h early = omega arith
counts-early LinkFault n m e h early = omega arith
counts-early TooLong n m e h early = omega arith
counts-early TooManyFragments n m e h early = omega arith
counts-early Torn n m e h early = omega arith
counts-early Budget n m e h early = absurd (early refl)
counts-early NoMemory n m e h early = omega arith
counts-early Lost n m e h early = omega arith

all-written : (ending : ConnEnd) (serves : Serving) (records : List Fragments) (kept : List Kept) → AllDecided serves records kept → IsWritten ending serves records kept (written_in serves records kept)
all-written Ended serves records kept d = refl
all-written LinkFault serves records kept d = (length (written_in serves records kept), sym (take-length (written_in serves records kept)))
all-written TooLong serves records kept d = refl
all-written TooManyFragments serves records kept d = refl
all-written Torn serves records kept d = refl
all-written Budget serves records kept d = refl
all-written NoMemory serves records kept d = inl (d, refl)
all-written Lost serves records kept d = refl

all-answered : (ending : ConnEnd) (serves : Serving) (records : List Fragments) (kept : List Kept) → ending ≢ Lost → AllDecided serves records kept → IsAnswered ending serves records kept
all-answered Ended serves records kept known d = d
all-answered LinkFault serves records kept known d = d
all-answered TooLong serves records kept known d = d
all-answered TooManyFragments serves records kept known d = d
all-answered Torn serves records kept known d = d
all-answered Budget serves records kept known d = d
all-answered NoMemory serves records kept known d = inl d
all-answered Lost serves records kept known d = absurd (known refl)

stopped : {told : Bool} {earlier then since : List (Asked Admitted) → Type 0} {serves : Serving} {a b c : Wire} {before kept : List Kept} (n : ℕ) (ending : ConnEnd) → Joins earlier then since n → n < 65536 → Underway told earlier serves a b n before → Stops told then b c ending kept → IsServed told since serves a c ending before
stopped {told} {since = since} {serves = serves} {a = a} {c = c} {before = before} n ending joins h s t = record {
  records = s.records;
  counted = s.counted;
  counts = counts-early ending n (length s.records) s.count h t.early;
  exact = s.exact;
  answered = all-answered ending serves s.records before t.known s.answered;
  asked = subst since (append-nil _) (joins (asked_in serves s.records before) [] (omega (arith, few-asked serves s.records before, s.count)) s.asked t.asked);
  wire =
      let w = s.wire in
      let r = t.wire in record {
        rest = r.octets;
        wrote = written_in serves s.records before;
        each = w.each;
        went = went-same (went-again w.went r.went) refl (append-nil _);
        behind = r.behind;
        replies = all-written ending serves s.records before s.answered;
      };
}

no-front : IsFront []
no-front = record { earlier = []; part = []; few = lit≤ tt; size = lit≤ tt; partial = inl (lit< tt); spelled = refl }

-- the connection ended while the reply to its last record was written
faulted : {told : Bool} {earlier then since : List (Asked Admitted) → Type 0} {serves : Serving} {a b c : Wire} {before kept : List Kept} (n : ℕ) → Joins earlier then since n → n < 65536 → Underway told earlier serves a b n before → (t : Serves told then GoesOn InPart serves b c kept) → IsServed told since serves a c LinkFault (before ++ t.keeps.one ∷ [])
faulted {since = since} {serves = serves} {before = before} n joins h s t =
    let cut = t.cut in
    let one = t.keeps.one in
    record {
      records = s.records ++ cut ∷ [];
      counted = count-more cut one s;
      counts = omega (arith, s.count, h, length-append s.records (cut ∷ []));
      exact = exact-more cut one s t.keeps.exact;
      answered = decided-more cut one s t.keeps.ruled;
      asked = asked-more since cut one s joins t.keeps.asked;
      wire =
          let w = s.wire in
          let x = t.wire in record {
            rest = [];
            wrote = written_in serves s.records before ++ x.wrote;
            each = each-more w x;
            went = went-same (went-more s.records before cut w x) (sym (append-nil _)) refl;
            behind = no-front;
            replies = wrote-part serves s.records before cut one x.wrote s.counted x.much;
          };
    }

abbrev last-is : {told : Bool} {earlier then : List (Asked Admitted) → Type 0} {Is : Ruling → Type 0} {Much : List ℕ → List ℕ → Type 0} {serves : Serving} {a b c : Wire} {before kept : List Kept} {n : ℕ} (s : Underway told earlier serves a b n before) → (t : Serves told then Is Much serves b c kept) → LastIs Is serves (s.records ++ t.cut ∷ []) (before ++ t.keeps.one ∷ [])
last-is {before = before} s t = record {
  earlier = s.records;
  last = t.cut;
  before = before;
  one = t.keeps.one;
  cut = refl;
  keeps = refl;
  decided = s.answered;
  ruled = t.keeps.ruled;
}

-- what became of the last record's call isn't known
lost : {told : Bool} {earlier then since : List (Asked Admitted) → Type 0} {serves : Serving} {a b c : Wire} {before kept : List Kept} (n : ℕ) → Joins earlier then since n → n < 65536 → Underway told earlier serves a b n before → (t : Serves told then IsLost All serves b c kept) → IsServed told since serves a c Lost (before ++ t.keeps.one ∷ [])
lost {since = since} {serves = serves} {before = before} n joins h s t =
    let cut = t.cut in
    let one = t.keeps.one in
    record {
      records = s.records ++ cut ∷ [];
      counted = count-more cut one s;
      counts = omega (arith, s.count, h, length-append s.records (cut ∷ []));
      exact = exact-more cut one s t.keeps.exact;
      answered = last-is s t;
      asked = asked-more since cut one s joins t.keeps.asked;
      wire =
          let w = more-on-wire cut one s t.wire in record {
            rest = [];
            wrote = written_in serves (s.records ++ cut ∷ []) (before ++ one ∷ []);
            each = w.each;
            went = went-same w.went (sym (append-nil _)) refl;
            behind = refl;
            replies = refl;
          };
    }

wanted : {told : Bool} {earlier then since : List (Asked Admitted) → Type 0} {serves : Serving} {a b c : Wire} {before kept : List Kept} (n : ℕ) → Joins earlier then since n → n < 65536 → Underway told earlier serves a b n before → (t : Serves told then Wanted Nothing serves b c kept) → IsServed told since serves a c NoMemory (before ++ t.keeps.one ∷ [])
wanted {since = since} {serves = serves} {before = before} n joins h s t =
    let cut = t.cut in
    let one = t.keeps.one in
    record {
      records = s.records ++ cut ∷ [];
      counted = count-more cut one s;
      counts = omega (arith, s.count, h, length-append s.records (cut ∷ []));
      exact = exact-more cut one s t.keeps.exact;
      answered = inr (last-is s t);
      asked = asked-more since cut one s joins t.keeps.asked;
      wire =
          let w = s.wire in
          let x = t.wire in record {
            rest = [];
            wrote = written_in serves s.records before ++ x.wrote;
            each = each-more w x;
            went = went-same (went-more s.records before cut w x) (sym (append-nil _)) refl;
            behind = inl no-front;
            replies = inr (last-is s t, ap (λ (zs : List ℕ). written_in serves s.records before ++ zs) x.much ∙ append-nil _);
          };
    }

broken : {told : Bool} {earlier then since : List (Asked Admitted) → Type 0} {serves : Serving} {a b c : Wire} {before : List Kept} (kept : List Kept) (n : ℕ) (ending : ConnEnd) → Joins earlier then since n → n < 65536 → Underway told earlier serves a b n before → Breaks told then serves b c ending kept → IsServed told since serves a c ending (before ++ kept)
broken kept n Ended joins h s t = absurd t
broken {told} {since = since} {serves} {a} {c = c} {before} kept n LinkFault joins h s t =
    subst (λ (ks : List Kept). IsServed told since serves a c LinkFault (before ++ ks)) (sym t.keeps.only) (faulted n joins h s t)
broken kept n TooLong joins h s t = absurd t
broken kept n TooManyFragments joins h s t = absurd t
broken kept n Torn joins h s t = absurd t
broken kept n Budget joins h s t = absurd t
broken {told} {since = since} {serves} {a} {c = c} {before} kept n Lost joins h s t =
    subst (λ (ks : List Kept). IsServed told since serves a c Lost (before ++ ks)) (sym t.keeps.only) (lost n joins h s t)
broken {told} {since = since} {serves} {a} {c = c} {before} kept n NoMemory joins h s t =
    subst (λ (ks : List Kept). IsServed told since serves a c NoMemory (before ++ ks)) (sym t.keeps.only) (wanted n joins h s t)

pub serving-stop : {told : Bool} {earlier then since : List (Asked Admitted) → Type 0} {serves : Serving} {a b c : Wire} {before kept : List Kept} (n : ℕ) (ending : ConnEnd) → Joins earlier then since n → n < 65536 → Underway told earlier serves a b n before → Turns told then serves b c (Some ending) kept → IsServed told since serves a c ending (before ++ kept)
serving-stop {told} {since = since} {serves} {a} {c = c} {before} n ending joins h s (inl t) =
    subst (λ (ks : List Kept). IsServed told since serves a c ending ks) (sym (append-nil before) ∙ ap (λ (ks : List Kept). before ++ ks) (sym t.none)) (stopped n ending joins h s t)
serving-stop {kept = kept} n ending joins h s (inr t) = broken kept n ending joins h s t

pub serving-full : {told : Bool} {gained : List (Asked Admitted) → Type 0} {serves : Serving} {a b : Wire} {kept : List Kept} → Underway told gained serves a b 65536 kept → IsServed told gained serves a b Budget kept
serving-full {serves = serves} {kept = kept} s = record {
  records = s.records;
  counted = s.counted;
  counts = s.count;
  exact = s.exact;
  answered = s.answered;
  asked = s.asked;
  wire =
      let w = s.wire in record {
        rest = [];
        wrote = written_in serves s.records kept;
        each = w.each;
        went = went-same w.went (sym (append-nil _)) refl;
        behind = refl;
        replies = refl;
      };
}
