use Rattle.std.proofs.Common.{◌≡◌, ◌≢◌, ◌<◌, ◌≤◌, true, false, Some, sym, ap, ◌∙◌}
use Rattle.list_walk.specs.Turn.{end_link, is_given}
use Rattle.list_walk.proofs.Ends.{at-its-end, at-given, at-low, at-free}
use Rattle.list_walk.proofs.Given.{given-found}
use Rattle.list_walk.proofs.walk.Walk.end_at.Goals as goal

pub returns-then-link-end-clause-stop : goal.returns-then-link-end-clause-stop
returns-then-link-end-clause-stop c = ap (λ stop. Some stop) c.end-end.ensures.stop ∙ at-its-end c.args.self.now c.args.link (c.if-link-end.true ∙ c.end-end.ensures.link)

pub returns-then-contains-clause-stop : goal.returns-then-contains-clause-stop
returns-then-contains-clause-stop c =
    let further : c.args.link ≢ end_link c.args.self.now = λ is. c.if-link-end.false (is ∙ sym c.end-end.ensures.link) in
    at-given c.args.self.now c.args.link further (given-found c.args.self.now c.self.inside.given.keys c.args.link c.contains.result true (ap (λ w. w.given) (sym c.self.view_is)) c.contains.ensures c.if-contains.true)

pub returns-then-link-self-clause-stop : goal.returns-then-link-self-clause-stop
returns-then-link-self-clause-stop c =
    let further : c.args.link ≢ end_link c.args.self.now = λ is. c.if-link-end.false (is ∙ sym c.end-end.ensures.link) in
    let low : c.args.link < c.args.self.now.back = rw (← c.self.view_is) c.if-link-self.true in
    at-low c.args.self.now c.args.link further (given-found c.args.self.now c.self.inside.given.keys c.args.link c.contains.result false (ap (λ w. w.given) (sym c.self.view_is)) c.contains.ensures c.if-contains.false) low

pub returns : goal.returns
returns c =
    let further : c.args.link ≢ end_link c.args.self.now = λ is. c.if-link-end.false (is ∙ sym c.end-end.ensures.link) in
    let new : is_given c.args.self.now c.args.link ≡ false = given-found c.args.self.now c.self.inside.given.keys c.args.link c.contains.result false (ap (λ w. w.given) (sym c.self.view_is)) c.contains.ensures c.if-contains.false in
    let start : c.args.self.now.back ≤ c.args.link = rw (← c.self.view_is) c.if-link-self.false in
    record { stop = at-free c.args.self.now c.args.link further new start; free = record { new = new; no_end = further; start = start } }
