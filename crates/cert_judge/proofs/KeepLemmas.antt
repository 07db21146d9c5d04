-- Tables that grow keep their places.
use Rattle.std.proofs.Common.{List, refl, ◌∙◌, arith}
use Rattle.xdd_table.specs.declared.node.Node.{Node}
use Rattle.xdd_table.specs.Diagram.{Keeps}

pub keeps_self : (nodes : List Node) → Keeps nodes nodes
keeps_self nodes = record { grows = omega arith; nodes = λ p h. refl; times = λ f p h. refl; begins = λ e p h b. b; events = λ p bound h e. e }

pub keeps_twice : (a b c : List Node) → Keeps a b → Keeps b c → Keeps a c
keeps_twice a b c k l = record {
  grows = omega (arith, k.grows, l.grows);
  nodes = λ p h. l.nodes p (omega (arith, k.grows)) ∙ k.nodes p h;
  times = λ f p h. l.times f p (omega (arith, k.grows)) ∙ k.times f p h;
  begins = λ e p h b. l.begins e p (omega (arith, k.grows)) (k.begins e p h b);
  events = λ p bound h e. l.events p bound (omega (arith, k.grows)) (k.events p bound h e);
}

pub keeps_thrice : (a b c d : List Node) → Keeps a b → Keeps b c → Keeps c d → Keeps a d
keeps_thrice a b c d k l m = keeps_twice a c d (keeps_twice a b c k l) m
