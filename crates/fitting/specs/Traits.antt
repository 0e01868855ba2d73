-- What the code keeps of a tree, as the grammar's attributes; and the code's sites, as those of the grammar.
--
--   begin_of b    what a tree begins with
--   traits_of t   the attributes that the traits t stand for
--   site_of s     the site that s stands for
--
-- Assumes nothing.
use Rattle.kinds.specs.Levels.{standing}
use Rattle.grammar.specs.Site as site
use Rattle.grammar.specs.Site.{Attr, Site}
use Rattle.grammar.specs.Layout.{sort_of}
use Rattle.fitting.specs.declared.traits.Begin.{Begin}
use Rattle.fitting.specs.declared.traits.Begin.TheVariants as begins
use Rattle.fitting.specs.declared.traits.Traits.{Traits}
use Rattle.fitting.specs.declared.site.Site.{Site as SiteR}
use Rattle.fitting.specs.declared.site.Site.TheVariants as stands

abbrev pub begin_of : Begin → site.Begin
begin_of begins.Brace = site.brace
begin_of begins.Function = site.function
begin_of begins.Other = site.other

abbrev pub traits_of : Traits → Attr
traits_of t = record {
  sort = sort_of t.form;
  standing = standing t.form t.over_call t.over_target;
  bare_in = t.bare_in;
  begin = begin_of t.begin;
  dangles = t.dangles;
  single = t.single;
}

abbrev pub site_of : SiteR → Site
site_of (stands.At p) = site.at p
site_of stands.Start = site.start
site_of stands.Body = site.body
site_of stands.FunctionBody = site.block_only
site_of stands.Statement = site.stmt
site_of stands.Closed = site.closed
site_of stands.Init = site.init
site_of stands.VarInit = site.var_init
site_of stands.VarIn = site.var_in
site_of stands.Property = site.prop
site_of stands.PlainName = site.plain_name
site_of stands.ValuedName = site.valued_name
site_of stands.KeyName = site.key_name
