-- The figures of trees, tree by tree.
use Rattle.std.proofs.Common.{◌≡◌, List, [], ◌∷◌, refl}
use Rattle.subject_tree.specs.declared.forest.Root.{Root}
use Rattle.netlist.specs.declared.mapped.TreeFigure.{TreeFigure}
use Rattle.map_net.specs.declared.covers.TreeCover.{TreeCover}
use Rattle.map_net.specs.Mapping.{figure_of, figures_of}
use Rattle.map_net.proofs.Zipped.{IsZipped}

abbrev pub figure_step : Root → TreeCover → List TreeFigure
figure_step root cover = figure_of root cover ∷ []

pub figures_zipped : IsZipped figure_step figures_of
unfolding figures_of
figures_zipped = record {
  more = λ root roots cover covers. refl;
  none_left = λ covers. refl;
  none_right = none;
}
  where
    none : (roots : List Root) → figures_of roots [] ≡ []
    none [] = refl
    none (root ∷ roots) = refl
