use Rattle.std.proofs.Common.{◌+◌, ◌∷◌}
use Rattle.st_lex.proofs.Fronts.{one_list, no_list, over_blank, over_token, past_blank, past_token, blank_within}
use Rattle.st_lex.proofs.Fronts.{token_within, at_end, at_fault, pushed}
use Rattle.st_lex.proofs.lexer.lex.Goals as goal

pub returns-in-End-clause-found : goal.returns-in-End-clause-found
returns-in-End-clause-found c = record {
  short = c.if-text-gt-MAX_SOURCE_BYTES.false;
  spells = at_end c.args.text.now c.loop-tokens.at c.loop-tokens.tokens.items c.in_ok-read_front.field-0
      (c.in_ok-read_front.ensures.value) c.in-End.is c.loop-tokens.invariant.spells;
}

pub returns-in-End-clause-only : goal.returns-in-End-clause-only
returns-in-End-clause-only c = λ tokens s. one_list (at_end c.args.text.now c.loop-tokens.at c.loop-tokens.tokens.items
    c.in_ok-read_front.field-0 (c.in_ok-read_front.ensures.value) c.in-End.is c.loop-tokens.invariant.spells) s.spells

pub loop-tokens-preserved-in-Blank : goal.loop-tokens-preserved-in-Blank
loop-tokens-preserved-in-Blank c = record {
  within = blank_within c.args.text.now c.loop-tokens.at c.in-Blank.n c.in_ok-read_front.field-0
      c.loop-tokens.invariant.within c.in_ok-read_front.ensures.within c.in-Blank.is;
  spells = λ tail s. c.loop-tokens.invariant.spells tail (over_blank c.args.text.now c.loop-tokens.at c.in-Blank.n
      c.in_ok-read_front.field-0 tail c.in_ok-read_front.ensures.value c.in-Blank.is s);
  breaks = λ fault place s. c.loop-tokens.invariant.breaks fault place (past_blank c.args.text.now c.loop-tokens.at
      c.in-Blank.n c.in_ok-read_front.field-0 fault place c.in_ok-read_front.ensures.value c.in-Blank.is s);
}

pub loop-tokens-preserved : goal.loop-tokens-preserved
loop-tokens-preserved c = record {
  within = token_within c.args.text.now c.loop-tokens.at c.in-Token.n c.in-Token.kind c.in_ok-read_front.field-0
      c.loop-tokens.invariant.within c.in_ok-read_front.ensures.within c.in-Token.is;
  spells = λ tail s.
      pushed (record { kind = c.in-Token.kind; start = c.loop-tokens.at; end = c.loop-tokens.at + c.in-Token.n })
      c.args.text.now c.loop-tokens.tokens.items c.push.new.self.items tail c.in_ok-push-in-Token.ensures.items
      (c.loop-tokens.invariant.spells (_ ∷ tail) (over_token c.args.text.now c.loop-tokens.at c.in-Token.n
      c.in-Token.kind c.in_ok-read_front.field-0 tail c.in_ok-read_front.ensures.value c.in-Token.is s));
  breaks = λ fault place s.
      c.loop-tokens.invariant.breaks fault place (past_token c.args.text.now c.loop-tokens.at c.in-Token.n
      c.in-Token.kind c.in_ok-read_front.field-0 fault place c.in_ok-read_front.ensures.value c.in-Token.is s);
}

pub returns-in-Fault-clause-refused : goal.returns-in-Fault-clause-refused
returns-in-Fault-clause-refused c = (
  c.if-text-gt-MAX_SOURCE_BYTES.false,
  at_fault c.args.text.now c.loop-tokens.at c.in-Fault.n c.in-Fault.fault
      c.in_ok-read_front.field-0 c.in_ok-read_front.ensures.value c.in-Fault.is c.loop-tokens.invariant.breaks,
)

pub returns-in-Fault-clause-only : goal.returns-in-Fault-clause-only
returns-in-Fault-clause-only c =
    λ tokens s. no_list (at_fault c.args.text.now c.loop-tokens.at c.in-Fault.n c.in-Fault.fault
    c.in_ok-read_front.field-0 c.in_ok-read_front.ensures.value c.in-Fault.is c.loop-tokens.invariant.breaks) s.spells
