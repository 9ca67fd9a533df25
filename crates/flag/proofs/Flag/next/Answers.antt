use Rattle.std.proofs.Common.{rules, tests}
use Rattle.ranked.specs.Lying.{abs_of}
use Rattle.ranked.proofs.Chains.{serves_numbers, first_mapped}
use Rattle.flag.specs.Reading.{Moved}
use Rattle.flag.proofs.Iterate.{Standing, above_in, follows}
use Rattle.flag.proofs.Flag.next.Goals.{Start}
use Rattle.flag.proofs.Flag.next.Goals as goal

standing : (c : Start) → Standing c.args.solid.now.shape c.args.solid.now.lists.now c.args.self.elements
standing c = record { held = c.args.solid.now.held; long = search rules; flag = c.requires }

pub find_map-requires-clause-callable : goal.find_map-requires-clause-callable
find_map-requires-clause-callable c =
    serves_numbers c.rank.result (cc) (λ r q k. search (rules, tests)) (λ r low.
    let above = above_in (standing (goal.at.find_map-requires-clause-callable c).Start) r (rw c.rank.ensures at low) in search (rules, tests))

pub returns : goal.returns
returns c =
    let s = c.args.solid.now in
    let m = first_mapped (Moved (abs_of s) s.shape.rank c.args.self.elements) s.shape.rank (cc) (λ r o q k. search (rules, tests)) c.find_map.result c.find_map.ensures.runs in
    follows (standing (goal.at.returns c).Start) c.find_map.result m
