use Rattle.std.proofs.Common.{rules, ◌≡◌, refl, sym, subst}
use Rattle.rpcsec_msgs.specs.Cred.{cred_value}
use Rattle.accept_book.specs.RecordShown.{Ruling}
use Rattle.accept_book.specs.RecordRule.{args_ruling, ask_admit}
use Rattle.gss_server.specs.Hearing.{shown}
use Rattle.gss_server.specs.Ruled.{IsRuledInContext}
use Rattle.gss_server.proofs.Unasked.{unasked-ruled}
use Rattle.gss_server.proofs.calling.say_args.Goals as goal

pub returns-then-not-takes : goal.returns-then-not-takes
returns-then-not-takes g c = record {
  ruled = record {
    ruled = unasked-ruled g.G.Gate 1 c.args.gate.now c.args.asks.now _ _ c.requires.unasked (search rules);
    unlooked = rw c.requires.unasked refl;
  };
}

pub returns : goal.returns
returns g c =
    let then = c.ask_admission in
    let same : args_ruling (shown g.G.Gate.program c.args.heard.now) (cred_value c.args.cred.now) c.args.lease.now then.new.asks.admitted c.args.args.now
    ≡ ask_admit (shown g.G.Gate.program c.args.heard.now) (cred_value c.args.cred.now) c.args.lease.now c.as_slice-2.result.now then.new.asks.admitted = search rules in
    record { ruled = subst (λ (ruling : Ruling). IsRuledInContext g.G.Gate c.args.gate.now then.new.gate then.new.asks then.result ruling) (sym same) then.ensures.ruled }
