-- Links that a desk serves one after the other.
use Rattle.std.proofs.Common.{arith, ◌≡◌, ◌≢◌, ◌≤◌, ℕ, zero, suc, ◌+◌, ◌-◌, ◌*◌, Bool, true, false, IsTrue, List, [], ◌∷◌, ◌++◌, length, take, refl, ap, sym, ◌∙◌, subst, append_assoc, Option, Some, None, Ok}
use Rattle.std.specs.List.{AllByRecursion}
use Rattle.std.proofs.lemmas.List.{append-nil, length-append, map-append, take_at}
use Rattle.std.proofs.lemmas.Grind.{flat_map-append}
use Rattle.sec_base.specs.Port.{Accepts}
use Rattle.sec_base.specs.declared.port.Port as ports
use Rattle.sec_base.specs.declared.port.PortFault.{PortFault}
use Rattle.sec_base.specs.declared.link.Link as links
use Rattle.sec_base.specs.declared.clock.Clock as clocks
use Rattle.sec_base.specs.declared.draw.Draw as draws
use Rattle.accept_book.specs.RecordShown.{Asked}
use Rattle.accept_book.specs.declared.book_answer.Admitted.{Admitted}
use Rattle.rpc_program.specs.Programs.{Serving}
use Rattle.gss_server.specs.Connections.{IsServed}
use Rattle.gss_server.specs.Keeping.{Given}
use Rattle.gss_server.specs.Steady.{Timed, Drawn}
use Rattle.gss_server.proofs.KeptInARow.{given-none, given-again, timed-none, timed-again, drawn-none, drawn-again}
use Rattle.gss_server.specs.declared.answer.Kept.{Kept}
use Rattle.gss_server.specs.declared.connection.ConnEnd.{ConnEnd}
use Rattle.gss_server.specs.declared.connection.ConnEnd.TheVariants as conns
use Rattle.gss_server.specs.declared.connection.Served.{Served}
use Rattle.gss_server.specs.declared.keeper.Keeper as keepers
use Rattle.server_desks.specs.declared.desk.Desk.{Desk}
use Rattle.server_desks.specs.declared.desk.DeskEnd.{DeskEnd}
use Rattle.server_desks.specs.Desks.{ServedOf, ServedLink, LinksServed, links_in, answers_in, NoneWanted, earlier, is_starved, IsFresh, IsSmall, greatest_count, DeskGave, DeskAdds, DeskWent, DeskServed}

-- what was asked is so in another sense
pub served-as : {told : Bool} {one other : List (Asked Admitted) → Type 0} {serves : Serving} {a b : _} {ending : ConnEnd} {kept : List Kept} → ((asked : List (Asked Admitted)) → one asked → other asked) → IsServed told one serves a b ending kept → IsServed told other serves a b ending kept
served-as by s = record {
  records = s.records;
  counted = s.counted;
  counts = s.counts;
  exact = s.exact;
  answered = s.answered;
  asked = by _ s.asked;
  wire = s.wire;
}

answers-push : {L : Type 0} (served : List (ServedOf L)) (one : ServedOf L) → answers_in (served ++ one ∷ []) ≡ answers_in served ++ answers_in (one ∷ [])
answers-push served one = flat_map-append _ served (one ∷ [])

links-push : {L : Type 0} (served : List (ServedOf L)) (one : ServedOf L) → links_in (served ++ one ∷ []) ≡ links_in served ++ links_in (one ∷ [])
links-push served one = map-append _ served (one ∷ [])

pub served-push : {S L : Type 0} (Answers : S → Asked Admitted → S → Type 0) (serves : Serving) (link : links.Ghosts L) (a b c : S) (links : List L) (served : List (ServedOf L)) (next : L) (one : ServedOf L) → LinksServed Answers serves link a links served b → ServedLink Answers serves link b next one c → LinksServed Answers serves link a (links ++ next ∷ []) (served ++ one ∷ []) c
served-push Answers serves link a b c [] [] next one p q = (c, subst (λ s. ServedLink Answers serves link s next one c) p q, refl)
served-push Answers serves link a b c [] (x ∷ served) next one p q = absurd p
served-push Answers serves link a b c (l ∷ links) [] next one p q = absurd p
served-push Answers serves link a b c (l ∷ links) (x ∷ served) next one p q = (p.0, p.1, served-push Answers serves link p.0 b c links served next one p.2 q)

none-push : {L : Type 0} (served : List (ServedOf L)) (one : ServedOf L) → NoneWanted served → one.served.end ≢ conns.NoMemory → NoneWanted (served ++ one ∷ [])
none-push [] one a h = (h, tt)
none-push (x ∷ served) one a h = (a.0, none-push served one a.1 h)

none-front : {L : Type 0} (count : ℕ) (served : List (ServedOf L)) → NoneWanted served → NoneWanted (take count served)
none-front zero served n = tt
none-front (suc count) [] n = tt
none-front (suc count) (one ∷ served) n = (n.0, none-front count served n.1)

-- ---- a desk

pub gave-none : {P C D K M W L Q R : Type 0} (clock : clocks.Ghosts C) (draw : draws.Ghosts D) (keeper : keepers.Ghosts K Kept Q) (kept : keepers.Ghosts M (Served L) R) (desk : Desk P C D K M W) → DeskGave clock draw keeper kept desk desk []
gave-none clock draw keeper kept desk = record {
  answers = given-none keeper refl;
  links = given-none kept refl;
  timed = timed-none clock desk.clock;
  drawn = drawn-none draw desk.draw;
  connections = omega arith;
  records = omega arith;
}

pub gave-push : {P C D K M W L Q R : Type 0} {clock : clocks.Ghosts C} {draw : draws.Ghosts D} {keeper : keepers.Ghosts K Kept Q} {kept : keepers.Ghosts M (Served L) R} {a b c : Desk P C D K M W} (served : List (ServedOf L)) (one : ServedOf L) → DeskGave clock draw keeper kept a b served → DeskGave clock draw keeper kept b c (one ∷ []) → DeskGave clock draw keeper kept a c (served ++ one ∷ [])
gave-push {clock = clock} {draw} {keeper} {kept} {a} {b} {c} served one p q = record {
  answers = subst (λ (ks : List Kept). Given keeper a.keeper c.keeper ks) (sym (answers-push served one)) (given-again keeper _ _ _ (answers_in served) (answers_in (one ∷ [])) p.answers q.answers);
  links = subst (λ ks. Given kept a.links c.links ks) (sym (links-push served one)) (given-again kept _ _ _ (links_in served) (links_in (one ∷ [])) p.links q.links);
  timed = subst (λ (ks : List Kept). Timed clock a.clock c.clock ks) (sym (answers-push served one)) (timed-again clock (answers_in served) (answers_in (one ∷ [])) p.timed q.timed);
  drawn = subst (λ (ks : List Kept). Drawn draw a.draw c.draw ks) (sym (answers-push served one)) (drawn-again draw (answers_in served) (answers_in (one ∷ [])) p.drawn q.drawn);
  connections = omega (arith, p.connections, q.connections, length-append served (one ∷ []));
  records = omega (arith, p.records, q.records, ap length (answers-push served one), length-append (answers_in served) (answers_in (one ∷ [])));
}

-- the keeper of links made room, and the port was asked
pub gave-so : {P C D K M W L Q R : Type 0} {clock : clocks.Ghosts C} {draw : draws.Ghosts D} {keeper : keepers.Ghosts K Kept Q} {kept : keepers.Ghosts M (Served L) R} {a b : Desk P C D K M W} (port : P) (links : M) {served : List (ServedOf L)} → kept.kept links ≡ kept.kept b.links → DeskGave clock draw keeper kept a b served → DeskGave clock draw keeper kept a (record b { port = port; links = links }) served
gave-so port links e p = record {
  answers = p.answers;
  links = e ∙ p.links;
  timed = p.timed;
  drawn = p.drawn;
  connections = p.connections;
  records = p.records;
}

-- ---- the links of its port

-- nothing was served
abbrev pub went-none : {S P C D K M W L Q R : Type 0} {Answers : S → Asked Admitted → S → Type 0} {serves : Serving} {port : ports.Ghosts P L} {link : links.Ghosts L} {clock : clocks.Ghosts C} {draw : draws.Ghosts D} {keeper : keepers.Ghosts K Kept Q} {kept : keepers.Ghosts M (Served L) R} (gate : S) (desk : Desk P C D K M W) → DeskWent Answers serves port link clock draw keeper kept gate desk desk gate
went-none {clock = clock} {draw} {keeper} {kept} gate desk = record { links = []; served = []; each = refl; split = λ t. refl; gave = gave-none clock draw keeper kept desk }

-- the port was asked and gave no link
abbrev pub went-stop : {S P C D K M W L Q R : Type 0} {Answers : S → Asked Admitted → S → Type 0} {serves : Serving} {port : ports.Ghosts P L} {link : links.Ghosts L} {clock : clocks.Ghosts C} {draw : draws.Ghosts D} {keeper : keepers.Ghosts K Kept Q} {kept : keepers.Ghosts M (Served L) R} {before after : S} {old new : Desk P C D K M W} (asked : P) (room : M) → DeskWent Answers serves port link clock draw keeper kept before old new after
    → kept.kept room ≡ kept.kept new.links → (IsTrue (port.tells old.port) → port.links asked ≡ port.links new.port) → DeskWent Answers serves port link clock draw keeper kept before old (record new { port = asked; links = room }) after
went-stop asked room w e f = record {
  links = w.links;
  served = w.served;
  each = w.each;
  split = λ t. w.split t ∙ ap (λ xs. w.links ++ xs) (sym (f t));
  gave = gave-so asked room e w.gave;
}

-- the port gave a link, which was served
abbrev pub went-more : {S P C D K M W L Q R : Type 0} {Answers : S → Asked Admitted → S → Type 0} {serves : Serving} {port : ports.Ghosts P L} {link : links.Ghosts L} {clock : clocks.Ghosts C} {draw : draws.Ghosts D} {keeper : keepers.Ghosts K Kept Q} {kept : keepers.Ghosts M (Served L) R} {before middle after : S} {old between new : Desk P C D K M W} (asked : P) (room : M) (next : L) (end : ConnEnd)
    → (w : DeskWent Answers serves port link clock draw keeper kept before old between middle) → kept.kept room ≡ kept.kept between.links → (IsTrue (port.tells old.port) → port.links between.port ≡ next ∷ port.links asked)
    → DeskAdds Answers serves link clock draw keeper kept middle (record between { port = asked; links = room }) next end new after → new.port ≡ asked → DeskWent Answers serves port link clock draw keeper kept before old new after
went-more {port = port} asked room next end w e f d g = record {
  links = w.links ++ next ∷ [];
  served = w.served ++ d.served ∷ [];
  each = served-push _ _ _ _ _ _ w.links w.served next d.served w.each d.each;
  split = λ t. w.split t ∙ (ap (λ xs. w.links ++ xs) (f t) ∙ (sym (append_assoc w.links (next ∷ []) (port.links asked)) ∙ ap (λ p. (w.links ++ next ∷ []) ++ port.links p) (sym g)));
  gave = gave-push w.served d.served (gave-so asked room e w.gave) d.gave;
}

not-starved : (end : ConnEnd) → is_starved end ≡ false → end ≢ conns.NoMemory
not-starved end h e = let bad : false ≡ true = sym h ∙ ap is_starved e in cc

-- all that were served before the last wanted none
pub earlier-push : {L : Type 0} (served : List (ServedOf L)) (one : ServedOf L) → earlier (served ++ one ∷ []) ≡ served
earlier-push served one =
    let size : length (served ++ one ∷ []) - 1 ≡ length served = omega (arith, length-append served (one ∷ [])) in
    ap (λ (n : ℕ). take n (served ++ one ∷ [])) size ∙ take_at served (one ∷ []) (length served) refl

pub none-earlier : {L : Type 0} (served : List (ServedOf L)) → NoneWanted served → NoneWanted (earlier served)
none-earlier served n = none-front (length served - 1) served n

-- and none wanted memory
pub none-more : {S P C D K M W L Q R : Type 0} {Answers : S → Asked Admitted → S → Type 0} {serves : Serving} {link : links.Ghosts L} {clock : clocks.Ghosts C} {draw : draws.Ghosts D} {keeper : keepers.Ghosts K Kept Q} {kept : keepers.Ghosts M (Served L) R} {middle after : S} {between new : Desk P C D K M W} {next : L} {end : ConnEnd} (served : List (ServedOf L)) → NoneWanted served
    → (d : DeskAdds Answers serves link clock draw keeper kept middle between next end new after) → is_starved end ≡ false → NoneWanted (served ++ d.served ∷ [])
none-more {end = end} served n d h = none-push served d.served n (λ e. not-starved end h (sym d.ended ∙ e))

-- the port gave no link, since none is to come
pub none-left : {L : Type 0} (old new : List L) (next : Option L) → next ≡ None → Accepts {E = PortFault} old new (Ok next) → (old ≡ []) × (new ≡ [])
none-left {L} old new next e h = subst (λ (o : Option L). Accepts {E = PortFault} old new (Ok o)) e h

-- the port gave this link
pub accepted : {L : Type 0} (old new : List L) (link : L) (next : Option L) → next ≡ Some link → Accepts {E = PortFault} old new (Ok next) → old ≡ link ∷ new
accepted {L} old new link next e h = subst (λ (o : Option L). Accepts {E = PortFault} old new (Ok o)) e h

-- a link that was served, as the contract of its connection says
pub adds-one : {S P C D K M W L Q R : Type 0} {Answers : S → Asked Admitted → S → Type 0} {serves : Serving} {link : links.Ghosts L} {clock : clocks.Ghosts C} {draw : draws.Ghosts D} {keeper : keepers.Ghosts K Kept Q} {kept : keepers.Ghosts M (Served L) R} {before after : S} {old new : Desk P C D K M W} (next : L) (served : Served L) (answers : List Kept)
    → ServedLink Answers serves link before next (record { served = served; answers = answers }) after → Given keeper old.keeper new.keeper answers → Timed clock old.clock new.clock answers → Drawn draw old.draw new.draw answers → kept.kept new.links ≡ kept.kept old.links ++ kept.parts served → new.connections ≡ old.connections + 1 → new.records ≡ old.records + served.records
    → DeskAdds Answers serves link clock draw keeper kept before old next served.end new after
adds-one {clock = clock} {draw} {keeper} {kept} {old = old} {new} next served answers each given timed drawn links connections records = record {
  served = record { served = served; answers = answers };
  ended = refl;
  each = each;
  gave = record {
    answers = subst (λ (ks : List Kept). Given keeper old.keeper new.keeper ks) (sym (append-nil answers)) given;
    links = links ∙ ap (λ xs. kept.kept old.links ++ xs) (sym (append-nil (kept.parts served)));
    timed = subst (λ (ks : List Kept). Timed clock old.clock new.clock ks) (sym (append-nil answers)) timed;
    drawn = subst (λ (ks : List Kept). Drawn draw old.draw new.draw ks) (sym (append-nil answers)) drawn;
    connections = connections;
    records = omega (arith, records, each.counted, ap (length {A = Kept}) (append-nil answers));
  };
}

-- ---- how many

few-answers : {S L : Type 0} (Answers : S → Asked Admitted → S → Type 0) (serves : Serving) (link : links.Ghosts L) (a b : S) (links : List L) (served : List (ServedOf L)) → LinksServed Answers serves link a links served b → length (answers_in served) ≤ 65536 * length served
few-answers Answers serves link a b [] [] p = omega arith
few-answers Answers serves link a b [] (x ∷ served) p = absurd p
few-answers Answers serves link a b (l ∷ links) [] p = absurd p
few-answers Answers serves link a b (l ∷ links) (x ∷ served) p = omega (arith, few-answers Answers serves link p.0 b links served p.2, p.1.most, p.1.counted, length-append x.answers (answers_in served))

-- a desk that began with nothing is small
pub desk-small : {S P C D K M W L Q R : Type 0} {Answers : S → Asked Admitted → S → Type 0} {serves : Serving} {most : ℕ} {port : ports.Ghosts P L} {link : links.Ghosts L} {clock : clocks.Ghosts C} {draw : draws.Ghosts D} {keeper : keepers.Ghosts K Kept Q} {kept : keepers.Ghosts M (Served L) R} {before after : S} {old new : Desk P C D K M W} {end : DeskEnd} → most ≤ greatest_count → IsFresh old → DeskServed Answers serves most port link clock draw keeper kept before old end new after → IsSmall new
desk-small h fresh p = record {
  few = omega (arith, p.few, h);
  within = omega (arith, p.went.gave.connections, p.went.gave.records, fresh.connections, fresh.records, few-answers _ _ _ _ _ p.went.links p.went.served p.went.each);
}

-- desks that have served nothing are small
pub fresh-small : {P C D K M W : Type 0} (desks : List (Desk P C D K M W)) → AllByRecursion IsFresh desks → AllByRecursion IsSmall desks
fresh-small [] all = tt
fresh-small (desk ∷ desks) all = (record { few = omega (arith, all.0.connections); within = omega (arith, all.0.records) }, fresh-small desks all.1)
