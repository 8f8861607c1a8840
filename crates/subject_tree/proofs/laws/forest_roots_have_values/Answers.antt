use Rattle.subject_tree.proofs.RootValues.{roots-worth, roots-named}
use Rattle.subject_tree.specs.Roots.{roots_of}
use Rattle.subject_tree.proofs.laws.forest_roots_have_values.Goals as goal

pub returns-clause-values : goal.returns-clause-values
returns-clause-values c circuit vertices names roots value acyclic different shaped (tree, trees, are, le) = roots-worth circuit vertices names tree roots value acyclic different shaped trees are

pub returns-clause-leaves : goal.returns-clause-leaves
returns-clause-leaves c circuit vertices names roots (tree, trees, are, le) = roots-named vertices names tree (roots_of circuit) roots are
