-- The code's link as a link of the definitions (01, The directory). Laws: proofs/LinkLaws.
use Rattle.d64spec.specs.Chain.{Link as ChainLink, ends, to, bad}
use Rattle.geometry.specs.Layout.{address_of}
use Rattle.links.specs.declared.Link.{Link}
use Rattle.links.specs.declared.Link.TheVariants.{Ends, To, Bad}

-- what the code's link says (01, Chains)
abbrev pub link_of : Link → ChainLink
link_of Ends = ends
link_of (To at) = to (address_of at)
link_of Bad = bad
