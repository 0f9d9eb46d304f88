use Rattle.std.proofs.Common.{◌≡◌, ◌+◌, ◌++◌, drop, map, vec_items, vec_len}
use Rattle.std.specs.Vec.Iter.{into_iter_items, into_iter_len}
use Rattle.gn_links.proofs.split.split_all.Given as goal

abbrev pub invariant-loop-link : goal.invariant-loop-link
invariant-loop-link g l = record {
  number : l.number + into_iter_len l.link-iterator ≡ vec_len l.fn.links;
  left : drop l.number (vec_items l.fn.links) ≡ into_iter_items l.link-iterator;
  roles : vec_items l.split.roles ++ map g.K.Link.role_of (into_iter_items l.link-iterator) ≡ map g.K.Link.role_of (vec_items l.fn.links);
  made : map (λ link. g.K.Reader.LinkReader.made_of link.reader) (vec_items l.split.links) ++ map g.K.Link.origin_of (into_iter_items l.link-iterator) ≡ map g.K.Link.origin_of (vec_items l.fn.links);
}
