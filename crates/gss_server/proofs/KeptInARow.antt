-- Answers that are made in a row.
use Rattle.std.proofs.Common.{◌≡◌, List, [], ◌++◌, ap, sym, ◌∙◌, append_assoc}
use Rattle.std.specs.List.{flat_map}
use Rattle.std.proofs.lemmas.List.{map-append, append-nil}
use Rattle.std.proofs.lemmas.Grind.{flat_map-append}
use Rattle.sec_base.specs.declared.clock.Clock as clocks
use Rattle.sec_base.specs.declared.draw.Draw as draws
use Rattle.gss_server.specs.declared.answer.Kept.{Kept}
use Rattle.gss_server.specs.declared.keeper.Keeper as keepers
use Rattle.gss_server.specs.Keeping.{Given, Makes}
use Rattle.gss_server.specs.Steady.{Timed, Drawn, moments_of, draws_of}

pub moments_of-append : (xs ys : List Kept) → moments_of (xs ++ ys) ≡ moments_of xs ++ moments_of ys
moments_of-append xs ys = map-append _ xs ys

pub draws_of-append : (xs ys : List Kept) → draws_of (xs ++ ys) ≡ draws_of xs ++ draws_of ys
draws_of-append xs ys = flat_map-append _ xs ys

-- what was given and then more
given-more : {A : Type 0} (a b c x y z : List A) → b ≡ a ++ x → c ≡ b ++ y → z ≡ x ++ y → c ≡ a ++ z
given-more {A} a b c x y z p q r = q ∙ (ap (λ (us : List A). us ++ y) p ∙ (append_assoc a x y ∙ ap (λ (us : List A). a ++ us) (sym r)))

pub given-none : {T K P : Type 0} (keeper : keepers.Ghosts K T P) {a b : K} → keeper.kept b ≡ keeper.kept a → Given keeper a b []
given-none keeper {a} e = e ∙ sym (append-nil (keeper.kept a))

pub given-again : {T K P : Type 0} (keeper : keepers.Ghosts K T P) (a b c : K) (xs ys : List T) → Given keeper a b xs → Given keeper b c ys → Given keeper a c (xs ++ ys)
given-again keeper a b c xs ys p q =
    given-more (keeper.kept a) (keeper.kept b) (keeper.kept c) (flat_map keeper.parts xs) (flat_map keeper.parts ys) _ p q (flat_map-append keeper.parts xs ys)

pub timed-none : {C : Type 0} (clock : clocks.Ghosts C) (a : C) → Timed clock a a []
timed-none clock a = record { tells = λ t. t; moments = λ t. sym (append-nil (clock.given a)) }

pub timed-again : {C : Type 0} (clock : clocks.Ghosts C) {a b c : C} (xs ys : List Kept) → Timed clock a b xs → Timed clock b c ys → Timed clock a c (xs ++ ys)
timed-again clock {a} {b} {c} xs ys p q = record {
  tells = λ t. p.tells (q.tells t);
  moments = λ t. given-more (clock.given a) (clock.given b) (clock.given c) (moments_of xs) (moments_of ys) _ (p.moments (q.tells t)) (q.moments t) (moments_of-append xs ys);
}

pub drawn-none : {D : Type 0} (draw : draws.Ghosts D) (a : D) → Drawn draw a a []
drawn-none draw a = record { tells = λ t. t; draws = λ t. sym (append-nil (draw.given a)) }

pub drawn-again : {D : Type 0} (draw : draws.Ghosts D) {a b c : D} (xs ys : List Kept) → Drawn draw a b xs → Drawn draw b c ys → Drawn draw a c (xs ++ ys)
drawn-again draw {a} {b} {c} xs ys p q = record {
  tells = λ t. p.tells (q.tells t);
  draws = λ t. given-more (draw.given a) (draw.given b) (draw.given c) (draws_of xs) (draws_of ys) _ (p.draws (q.tells t)) (q.draws t) (draws_of-append xs ys);
}

-- nothing was made
pub makes-none : {K P C D : Type 0} {keeper : keepers.Ghosts K Kept P} {clock : clocks.Ghosts C} {draw : draws.Ghosts D} {k k' : K} {c : C} {d : D} {Holds : List Kept → Type 0} → keeper.kept k' ≡ keeper.kept k → Holds [] → Makes keeper clock draw k k' c c d d Holds
makes-none {keeper = keeper} {clock = clock} {draw = draw} {c = c} {d = d} e h = record {
  kept = [];
  given = given-none keeper e;
  timed = timed-none clock c;
  drawn = drawn-none draw d;
  holds = h;
}

-- answers and then more
pub makes-again : {K P C D : Type 0} {keeper : keepers.Ghosts K Kept P} {clock : clocks.Ghosts C} {draw : draws.Ghosts D} {k k' k'' : K} {c c' c'' : C} {d d' d'' : D} {One Two Both : List Kept → Type 0} → Makes keeper clock draw k k' c c' d d' One → Makes keeper clock draw k' k'' c' c'' d' d'' Two → ((xs ys : List Kept) → One xs → Two ys → Both (xs ++ ys)) → Makes keeper clock draw k k'' c c'' d d'' Both
makes-again {keeper = keeper} {clock = clock} {draw = draw} p q join = record {
  kept = p.kept ++ q.kept;
  given = given-again keeper _ _ _ p.kept q.kept p.given q.given;
  timed = timed-again clock p.kept q.kept p.timed q.timed;
  drawn = drawn-again draw p.kept q.kept p.drawn q.drawn;
  holds = join p.kept q.kept p.holds q.holds;
}

-- the same answers, of which something else holds too
pub makes-so : {K P C D : Type 0} {keeper : keepers.Ghosts K Kept P} {clock : clocks.Ghosts C} {draw : draws.Ghosts D} {k k' : K} {c c' : C} {d d' : D} {One Two : List Kept → Type 0} → Makes keeper clock draw k k' c c' d d' One → ((xs : List Kept) → One xs → Two xs) → Makes keeper clock draw k k' c c' d d' Two
makes-so p so = record { kept = p.kept; given = p.given; timed = p.timed; drawn = p.drawn; holds = so p.kept p.holds }

-- the keeper made room before
pub makes-after : {K P C D : Type 0} {keeper : keepers.Ghosts K Kept P} {clock : clocks.Ghosts C} {draw : draws.Ghosts D} {j k k' : K} {c c' : C} {d d' : D} {Holds : List Kept → Type 0} → keeper.kept k ≡ keeper.kept j → Makes keeper clock draw k k' c c' d d' Holds → Makes keeper clock draw j k' c c' d d' Holds
makes-after {P = P} {keeper = keeper} e p = record {
  kept = p.kept;
  given = p.given ∙ ap (λ (us : List P). us ++ flat_map keeper.parts p.kept) e;
  timed = p.timed;
  drawn = p.drawn;
  holds = p.holds;
}
