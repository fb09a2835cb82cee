use Rattle.std.proofs.Common.{◌≡◌, sym, subst}
use Rattle.std.specs.Prelude.{IfOk, string_bytes}
use Rattle.gss_client.specs.declared.refusal.Denial.{Denial}
use Rattle.client_options.specs.Endings.{denial_line}
use Rattle.client_options.proofs.ending.denial_text.Goals as goal

pub returns-in-Rpc : goal.returns-in-Rpc
returns-in-Rpc c = subst (λ (d : Denial). IfOk c.format.result (λ made. string_bytes made ≡ denial_line d)) (sym c.in-Rpc.is) c.format.ensures.ok

pub returns-in-Auth : goal.returns-in-Auth
returns-in-Auth c = subst (λ (d : Denial). IfOk c.format-in-Auth.result (λ made. string_bytes made ≡ denial_line d)) (sym c.in-Auth.is) c.format-in-Auth.ensures.ok

pub returns-in-Accept : goal.returns-in-Accept
returns-in-Accept c = subst (λ (d : Denial). IfOk c.format-in-Accept.result (λ made. string_bytes made ≡ denial_line d)) (sym c.in-Accept.is) c.format-in-Accept.ensures.ok

pub returns-in-Gss : goal.returns-in-Gss
returns-in-Gss c = subst (λ (d : Denial). IfOk c.format-in-Gss.result (λ made. string_bytes made ≡ denial_line d)) (sym c.in-Gss.is) c.format-in-Gss.ensures.ok
