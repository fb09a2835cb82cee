-- Parts of a talk, one after the other.
use Rattle.std.proofs.Common.{◌≡◌, ◌≢◌, ℕ, List, [], ◌++◌, take, drop, refl, ap, sym, ◌∙◌, append_assoc, Result, Ok, Err}
use Rattle.std.proofs.lemmas.List.{append-nil, take-append-drop}
use Rattle.sec_base.specs.Link.{Wire}
use Rattle.sec_base.specs.Answers.{Gives}
use Rattle.rpc_msgs.specs.Records.{last_fragment, IsTooLong, IsTooMany, IsTorn, Fragments, octets_in, frame, IsRecord}
use Rattle.sec_base.specs.Streams.{Took, Put}
use Rattle.gss_client.specs.declared.refusal.ClientRefusal.{ClientRefusal}
use Rattle.gss_client.specs.declared.refusal.ClientRefusal.TheVariants.{LinkFault, PeerEnded, BadReply, NoMemory}
use Rattle.gss_client.specs.declared.refusal.ReplyWhy.TheVariants.{Record}
use Rattle.gss_client.specs.Hearing.{Heard, whole, ended, unfit, next_of}
use Rattle.gss_client.specs.Talking.{Said, Talking, said, after, goes_on, ◌>>=◌, judges, by_heard, listens, exchanges}
use Rattle.gss_client.specs.Exchanging.{Went, Done, Stopped, Talks}
use Rattle.gss_client.proofs.NextRecord.{of-frame, of-too-long, of-too-many, of-torn, of-nothing}

-- ---- what was taken and written

pub went-nothing : (a : Wire) → Went a a [] []
went-nothing a = record { taken = sym (append-nil a.taken); coming = ([], append-nil a.coming); written = sym (append-nil a.written) }

pub went-took : {a b : Wire} {xs : List ℕ} → Took a b xs → Went a b xs []
went-took {a} {b} {xs} t = record {
  taken = t.taken;
  coming = ([], append-nil a.coming ∙ t.coming);
  written = t.written ∙ sym (append-nil a.written);
}

pub went-put : {a b : Wire} {ys : List ℕ} → Put a b ys → Went a b [] ys
went-put {a} {b} {ys} p = record {
  taken = p.taken ∙ sym (append-nil a.taken);
  coming = (p.coming.0, sym p.coming.1);
  written = p.written;
}

pub went-again : {a b c : Wire} {xs ys us vs : List ℕ} → Went a b xs ys → Went b c us vs → Went a c (xs ++ us) (ys ++ vs)
went-again {a} {b} {c} {xs} {ys} {us} {vs} p q = record {
  taken = q.taken ∙ (ap (λ (zs : List ℕ). zs ++ us) p.taken ∙ append_assoc a.taken xs us);
  coming = (
    p.coming.0 ++ q.coming.0,
    sym (append_assoc a.coming p.coming.0 q.coming.0) ∙ (ap (λ (zs : List ℕ). zs ++ q.coming.0) p.coming.1 ∙ (append_assoc xs b.coming q.coming.0 ∙ (ap (λ (zs : List ℕ). xs ++ zs) q.coming.1 ∙ sym (append_assoc xs us c.coming)))),
  );
  written = q.written ∙ (ap (λ (zs : List ℕ). zs ++ vs) p.written ∙ append_assoc a.written ys vs);
}

-- ---- one part after another

-- what a part wrote is a front of what it and a further part write
further : {A B : Type 0} (written rest : List ℕ) (next : A → Talking B) (answer : Result A ClientRefusal) → (more : List ℕ) × ((goes_on written rest next answer).written ≡ written ++ more)
further written rest next (Ok x) = ((next x rest).written, refl)
further written rest next (Err refusal) = ([], sym (append-nil written))

halts : {A B : Type 0} (written rest : List ℕ) (next : A → Talking B) (answer : Result A ClientRefusal) (refusal : ClientRefusal) → answer ≡ Err refusal → goes_on written rest next answer ≡ said written (Err refusal) rest
halts written rest next answer refusal e = rw e refl

-- the part by what the first part says of the stream
joined-by : {A B : Type 0} (part : Talking A) (next : A → Talking B) (stream written rest : List ℕ) (x : A) → part stream ≡ said written (Ok x) rest → (part >>= next) stream ≡ after written (next x rest)
joined-by part next stream written rest x e = ap (λ (s : Said _). goes_on s.written s.rest next s.answer) e

pub stopped-first : {A B : Type 0} (part : Talking A) (next : A → Talking B) (a b : Wire) (refusal : ClientRefusal) → Stopped part a b refusal → Stopped (part >>= next) a b refusal
stopped-first part next a b refusal s =
    let one : Said _ = part (s.took ++ b.coming) in
    let f : (more : List ℕ) × ((goes_on one.written one.rest next one.answer).written ≡ one.written ++ more) = further one.written one.rest next one.answer in
    record {
      took = s.took;
      wrote = s.wrote;
      went = s.went;
      front = (s.front.0 ++ f.0, f.1 ∙ (ap (λ (zs : List ℕ). zs ++ f.0) s.front.1 ∙ append_assoc s.wrote s.front.0 f.0));
      whole = λ fault memory. s.whole fault memory ∙ sym (ap (λ (r : Said _). r.written) (halts one.written one.rest next one.answer refusal (s.cause fault memory)));
      cause = λ fault memory. ap (λ (r : Said _). r.answer) (halts one.written one.rest next one.answer refusal (s.cause fault memory));
    }

pub talks-then : {A B : Type 0} (part : Talking A) (next : A → Talking B) (a b c : Wire) (x : A) (r : Result B ClientRefusal) → Done part a b x → Talks (next x) b c r → Talks (part >>= next) a c r
talks-then part next a b c x (Ok y) d e = record {
  took = d.took ++ e.took;
  wrote = d.wrote ++ e.wrote;
  went = went-again d.went e.went;
  whole = λ later.
      ap (part >>= next) (append_assoc d.took e.took later)
      ∙ (joined-by part next (d.took ++ (e.took ++ later)) d.wrote (e.took ++ later) x (d.whole (e.took ++ later))
      ∙ ap (λ (s : Said _). after d.wrote s) (e.whole later));
}
talks-then part next a b c x (Err refusal) d s =
    let both : (part >>= next) ((d.took ++ s.took) ++ c.coming) ≡ after d.wrote (next x (s.took ++ c.coming)) =
    ap (part >>= next) (append_assoc d.took s.took c.coming) ∙ joined-by part next (d.took ++ (s.took ++ c.coming)) d.wrote (s.took ++ c.coming) x (d.whole (s.took ++ c.coming)) in
    record {
      took = d.took ++ s.took;
      wrote = d.wrote ++ s.wrote;
      went = went-again d.went s.went;
      front = (s.front.0, ap (λ (t : Said _). t.written) both ∙ (ap (λ (zs : List ℕ). d.wrote ++ zs) s.front.1 ∙ sym (append_assoc d.wrote s.wrote s.front.0)));
      whole = λ fault memory. ap (λ (zs : List ℕ). d.wrote ++ zs) (s.whole fault memory) ∙ sym (ap (λ (t : Said _). t.written) both);
      cause = λ fault memory. ap (λ (t : Said _). t.answer) both ∙ s.cause fault memory;
    }

-- a judgement takes and writes nothing
pub talks-judged : {A : Type 0} (answer r : Result A ClientRefusal) (a : Wire) → Gives NoMemory (λ x. x) r answer → Talks (judges answer) a a r
talks-judged answer (Ok x) a e = record { took = []; wrote = []; went = went-nothing a; whole = λ later. rw e refl }
talks-judged answer (Err refusal) a e = record {
  took = [];
  wrote = [];
  went = went-nothing a;
  front = ([], refl);
  whole = λ fault memory. refl;
  cause = λ fault memory. e memory;
}

-- there was no memory before anything was taken or written
pub stopped-memory : {A : Type 0} (part : Talking A) (a : Wire) (refusal : ClientRefusal) → refusal ≡ NoMemory → Stopped part a a refusal
stopped-memory part a refusal e = record {
  took = [];
  wrote = [];
  went = went-nothing a;
  front = ((part a.coming).written, refl);
  whole = λ fault memory. absurd (memory e);
  cause = λ fault memory. absurd (memory e);
}

-- ---- a record is heard

heard-nothing : (h : Heard) → (by_heard h).written ≡ []
heard-nothing (whole octets rest) = refl
heard-nothing ended = refl
heard-nothing unfit = refl

listens-nothing : (stream : List ℕ) → (listens stream).written ≡ []
unfolding listens
listens-nothing stream = heard-nothing (next_of stream)

listens-by : (stream : List ℕ) (h : Heard) → next_of stream ≡ h → listens stream ≡ by_heard h
unfolding listens
listens-by stream h e = ap by_heard e

pub heard-whole : {a b : Wire} (cut : Fragments) (octets : List ℕ) → IsRecord cut → octets ≡ octets_in cut → Took a b (frame cut) → Done listens a b octets
heard-whole cut octets r e t = record {
  took = frame cut;
  wrote = [];
  went = went-took t;
  whole = λ later. listens-by (frame cut ++ later) (whole octets later) (of-frame cut later r ∙ ap (λ (zs : List ℕ). whole zs later) (sym e));
}

stops : {a b : Wire} (took : List ℕ) (refusal : ClientRefusal) → Took a b took → (refusal ≢ LinkFault → refusal ≢ NoMemory → (listens (took ++ b.coming)).answer ≡ Err refusal) → Stopped listens a b refusal
stops {a} {b} took refusal t cause = record {
  took = took;
  wrote = [];
  went = went-took t;
  front = ([], listens-nothing (took ++ b.coming));
  whole = λ fault memory. sym (listens-nothing (took ++ b.coming));
  cause = cause;
}

as-heard : (stream : List ℕ) (h : Heard) → next_of stream ≡ h → (listens stream).answer ≡ (by_heard h).answer
as-heard stream h e = ap (λ (s : Said (List ℕ)). s.answer) (listens-by stream h e)

pub heard-end : {a b : Wire} → Took a b [] → b.coming ≡ [] → Stopped listens a b PeerEnded
heard-end {a} {b} t e = stops [] PeerEnded t (λ fault memory. as-heard b.coming ended (ap next_of e ∙ of-nothing))

pub heard-torn : {a b : Wire} (octets : List ℕ) → IsTorn octets → Took a b octets → b.coming ≡ [] → Stopped listens a b PeerEnded
heard-torn {a} {b} octets p t e = stops octets PeerEnded t (λ fault memory. as-heard (octets ++ b.coming) ended (ap (λ (zs : List ℕ). next_of (octets ++ zs)) e ∙ (ap next_of (append-nil octets) ∙ of-torn octets p)))

pub heard-long : {a b : Wire} (octets : List ℕ) → IsTooLong octets → Took a b octets → Stopped listens a b (BadReply Record)
heard-long {a} {b} octets p t = stops octets (BadReply Record) t (λ fault memory. as-heard (octets ++ b.coming) unfit (of-too-long octets b.coming p))

pub heard-many : {a b : Wire} (octets : List ℕ) → IsTooMany octets → Took a b octets → Stopped listens a b (BadReply Record)
heard-many {a} {b} octets p t = stops octets (BadReply Record) t (λ fault memory. as-heard (octets ++ b.coming) unfit (of-too-many octets b.coming p))

pub heard-fault : {a b : Wire} (octets : List ℕ) → Took a b octets → Stopped listens a b LinkFault
heard-fault octets t = stops octets LinkFault t (λ fault memory. absurd (fault refl))

pub heard-memory : {a b : Wire} (octets : List ℕ) → Took a b octets → Stopped listens a b NoMemory
heard-memory octets t = stops octets NoMemory t (λ fault memory. absurd (memory refl))

-- ---- a call is written, and its reply is heard

exchanges-is : (call stream : List ℕ) → exchanges call stream ≡ after (last_fragment call) (listens stream)
unfolding exchanges
exchanges-is call stream = refl

pub talks-exchanged : (a b c : Wire) (call : List ℕ) (r : Result (List ℕ) ClientRefusal) → Put a b (last_fragment call) → Talks listens b c r → Talks (exchanges call) a c r
talks-exchanged a b c call (Ok reply) p d = record {
  took = d.took;
  wrote = last_fragment call ++ d.wrote;
  went = went-again (went-put p) d.went;
  whole = λ later. exchanges-is call (d.took ++ later) ∙ ap (λ (s : Said (List ℕ)). after (last_fragment call) s) (d.whole later);
}
talks-exchanged a b c call (Err refusal) p s =
    let both : exchanges call (s.took ++ c.coming) ≡ after (last_fragment call) (listens (s.took ++ c.coming)) = exchanges-is call (s.took ++ c.coming) in
    record {
      took = s.took;
      wrote = last_fragment call ++ s.wrote;
      went = went-again (went-put p) s.went;
      front = (s.front.0, ap (λ (t : Said (List ℕ)). t.written) both ∙ (ap (λ (zs : List ℕ). last_fragment call ++ zs) s.front.1 ∙ sym (append_assoc (last_fragment call) s.wrote s.front.0)));
      whole = λ fault memory. ap (λ (zs : List ℕ). last_fragment call ++ zs) (s.whole fault memory) ∙ sym (ap (λ (t : Said (List ℕ)). t.written) both);
      cause = λ fault memory. ap (λ (t : Said (List ℕ)). t.answer) both ∙ s.cause fault memory;
    }

pub stopped-writing : {a b : Wire} (call : List ℕ) (count : ℕ) → Put a b (take count (last_fragment call)) → Stopped (exchanges call) a b LinkFault
stopped-writing {a} {b} call count p = record {
  took = [];
  wrote = take count (last_fragment call);
  went = went-put p;
  front = (
    drop count (last_fragment call) ++ (listens b.coming).written,
    ap (λ (t : Said (List ℕ)). t.written) (exchanges-is call b.coming)
        ∙ (ap (λ (zs : List ℕ). zs ++ (listens b.coming).written) (sym (take-append-drop count (last_fragment call))) ∙ append_assoc (take count (last_fragment call)) (drop count (last_fragment call)) (listens b.coming).written),
  );
  whole = λ fault memory. absurd (fault refl);
  cause = λ fault memory. absurd (fault refl);
}
